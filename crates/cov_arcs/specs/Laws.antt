-- The arcs that the events of a run tell are those of its meaning.
--     unit_lines, firsts_of                          the table of first lines
--     ArcsAgree                                      of events and items
--     ProgramArcsLaw, ModulesArcsLaw, CallArcsLaw    for each run
--     BeginningLaw                                   for some first events
use Rattle.std.specs.Prelude.{◌≡◌, ℕ, ◌<◌, Bool, List, [], ◌∷◌, length, map, ℤ, Some, slice_get, count_by}
use Rattle.cov_event.specs.declared.event.Event.{Event}
use Rattle.cov_event.specs.Moves.{Takes}
use Rattle.cov_outside.specs.Prefixes.{IsPrefix}
use Rattle.py_syntax.specs.Functions.{functions}
use Rattle.py_syntax.specs.Tree.{Text}
use Rattle.py_builtins.specs.World.{World}
use Rattle.py_meaning.specs.Activations.{Items}
use Rattle.py_meaning.specs.Crossings.{ends, crossings, lines_crossed, ordered}
use Rattle.py_meaning.specs.Events.{events_in}
use Rattle.py_meaning.specs.Loading.{Program, loaded}
use Rattle.py_meaning.specs.Modules.{LoadedModule}
use Rattle.py_meaning.specs.Program.{run_modules, meaning, Request, called}
use Rattle.cov_arcs.specs.Told.{arcs_told}
use Rattle.cov_arcs.specs.Tracing.{Tracing, at_first, IsNext}

-- the first lines of the units of a module: its body begins in line 1, and a function at its `def`
-- (Python Language Reference, 8.7)
abbrev pub unit_lines : LoadedModule → List ℕ
unit_lines m = 1 ∷ map (λ f. f.line) (functions m.body)

-- the first lines of the units of each module
abbrev pub firsts_of : List LoadedModule → List (List ℕ)
firsts_of ms = map unit_lines ms

-- In each module: the events of these items tell as many arcs of each kind as the items cross, at all
-- places. Each once and in order, they tell the arcs that the items cross, and a tracer that took
-- the events keeps these arcs.
pub record ArcsAgree (ms : List LoadedModule) (items : Items) : Type 0 where
  pub places : (m : ℕ) (p : ℤ × ℤ → Bool) →
      count_by p (arcs_told (firsts_of ms) m [] (events_in items))
      ≡ count_by p (map ends (crossings ms m items))
  pub told : (m : ℕ) →
      ordered [] (arcs_told (firsts_of ms) m [] (events_in items))
      ≡ lines_crossed (crossings ms m items)
  pub kept : (new : Tracing) → Takes IsNext (at_first (firsts_of ms)) (events_in items) new →
      (m : ℕ) → m < length ms → slice_get new.arcs m ≡ Some (lines_crossed (crossings ms m items))

-- Within any budget: of a program,
abbrev pub ProgramArcsLaw : Type 0
ProgramArcsLaw =
    (program : Program) (words : List Text) (input : List ℕ) (budget : ℕ) →
    ArcsAgree (loaded program) (meaning program words input budget).items

-- of a list of modules, whatever they were loaded from,
abbrev pub ModulesArcsLaw : Type 0
ModulesArcsLaw =
    (ms : List LoadedModule) (words : List Text) (input : List ℕ) (budget : ℕ) →
    ArcsAgree ms (run_modules ms words input budget).items

-- and of one call.
abbrev pub CallArcsLaw : Type 0
CallArcsLaw =
    (ms : List LoadedModule) (w : World) (input : List ℕ) (r : Request) (budget : ℕ) →
    ArcsAgree ms (called ms w input r budget).items

-- What some first events tell is the beginning of what all tell.
abbrev pub BeginningLaw : Type 0
BeginningLaw =
    (firsts : List (List ℕ)) (m : ℕ) (front whole : List Event) → IsPrefix front whole →
    IsPrefix (arcs_told firsts m [] front) (arcs_told firsts m [] whole)
