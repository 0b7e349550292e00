-- What a recorder keeps of a run, over all contexts: the arcs that the run took, or its lines. No
-- label stands in them, so they are the same whatever the hook and the plugins answer.
--     first_lines                  the first lines of a plan's units
--     IsKnown                      an event of a unit that the plan has, or in a line of a text
--     IsArcOfPath, IsLineOfPath    the arcs and lines of a path, by the arcs that modules took
--     HasSteps                     data that have them
--     Took                         a recorder that took events
--     RecordedStepsLaw             what it has of a list of events
--     KeepsMeaning                 of the items of a run's meaning
--     HasTextLines                 modules in lines that a text may have
--     ProgramStepsLaw, ModulesStepsLaw, CallStepsLaw     of each run
--     HaveSameSteps, SameStepsLaw  what two recorders have of the same events
use Rattle.std.specs.Prelude.{◌≡◌, ◌↔◌, ◌⊎◌, ℕ, ◌<◌, Bool, true, false, List, [], length, map, All, Contains, ℤ, pos, Option, IsTrue, IsSome}
use Rattle.cov_event.specs.declared.event.Event.{Event}
use Rattle.cov_event.specs.declared.event.Event.TheVariants.{Call, Line, Throw, Return}
use Rattle.cov_event.specs.Moves.{Takes, Calls}
use Rattle.cov_data.specs.DataSet.{Text, DataSet}
use Rattle.cov_data.specs.Rows.{arcs_of, lines_of}
use Rattle.py_syntax.specs.Marks.{statement_lines}
use Rattle.py_syntax.specs.Tree as tree
use Rattle.py_builtins.specs.World.{World}
use Rattle.py_meaning.specs.Activations.{Items}
use Rattle.py_meaning.specs.Crossings.{crossings, lines_crossed}
use Rattle.py_meaning.specs.Events.{events_in}
use Rattle.py_meaning.specs.Loading.{Program, loaded}
use Rattle.py_meaning.specs.Modules.{LoadedModule}
use Rattle.py_meaning.specs.Program.{run_modules, meaning, Request, called}
use Rattle.cov_arcs.specs.Laws.{firsts_of}
use Rattle.cov_arcs.specs.Told.{arcs_told}
use Rattle.cov_recorder.specs.Plan.{IsFirst, Plan, unit_of, set_of, path_of}
use Rattle.cov_recorder.specs.Recording.{Recording, at_first, is_line}
use Rattle.cov_recorder.specs.Labels.{IsNext}
use Rattle.cov_recorder.specs.Laws.{taken_of}

-- the first lines of the units of each module
abbrev pub first_lines : Plan → List (List ℕ)
first_lines plan = map (λ units. map (λ unit. unit.first) units) plan.units

-- a call of a unit that the plan has; a line that a text may have; any other event
abbrev pub IsKnown : Plan → Event → Type 0
IsKnown plan (Call code) = IsSome (unit_of plan code)
IsKnown plan (Line line) = IsTrue (is_line line)
IsKnown plan (Throw kind) = Unit {0}
IsKnown plan Return = Unit {0}

-- an arc of a path: a module of that path took it, and has a counter for it
abbrev pub IsArcOfPath : Plan → (ℕ → List (ℤ × ℤ)) → Text → ℤ × ℤ → Type 0
IsArcOfPath plan taken path a =
    (m : ℕ) × (path_of plan m ≡ path) × Contains (set_of plan m) a × Contains (taken m) a

-- a line of a path: a module of that path took an arc to it, and has a counter for the line
abbrev pub IsLineOfPath : Plan → (ℕ → List (ℤ × ℤ)) → Text → ℕ → Type 0
IsLineOfPath plan taken path line =
    (m : ℕ) × (from : ℤ) × (path_of plan m ≡ path)
    × Contains (set_of plan m) (pos line, pos line) × Contains (taken m) (from, pos line)

-- Data of arcs have, under each path and in some context, exactly the arcs of that path. So do data
-- of lines with its lines, which are from 1 on.
pub record HasSteps (plan : Plan) (taken : ℕ → List (ℤ × ℤ)) (d : DataSet) : Type 0 where
  pub arcs : plan.arcs ≡ true → (path : Text) (a : ℤ × ℤ)
      → Contains (arcs_of d path) a ↔ IsArcOfPath plan taken path a
  pub lines : plan.arcs ≡ false → (path : Text) (line : ℕ) → 0 < line
      → Contains (lines_of d path) line ↔ IsLineOfPath plan taken path line

-- A tracer began as a recorder of this plan, and took these events one after another: all that it
-- was told, or all but those that it refused.
abbrev pub Took : {S C : Type 0} → (C → Text → Text → Option (List ℕ) → C → Type 0)
    → (S → Recording × C) → Plan → List Event → S → Type 0
Took {S} {C} asks state plan events new =
    let moves : S → Event → S → Type 0 =
    λ before event later. IsNext asks (state before) event (state later) in
    (old : S) × (sources : C) × (state old ≡ (at_first plan, sources))
    × (Takes moves old events new
    ⊎ ((calls : List (Event × Bool)) × (taken_of calls ≡ events)
    × Calls moves (λ before _ later. (state later).0 ≡ (state before).0) old calls new))

-- A recorder that took known events has what they tell. Neither labels nor sources of labels stand
-- in that: it holds whatever these answer.
abbrev pub RecordedStepsLaw : {S C : Type 0}
    → (C → Text → Text → Option (List ℕ) → C → Type 0) → (S → Recording × C) → Type 0
RecordedStepsLaw {S} asks state =
    (plan : Plan) (events : List Event) (new : S) → All (IsKnown plan) events
    → Took asks state plan events new
    → HasSteps plan (λ m. arcs_told (first_lines plan) m [] events) (state new).0.data

-- A recorder whose plan has the units of these modules, and that took the events of these items,
-- has what the items cross.
abbrev pub KeepsMeaning : {S C : Type 0}
    → (C → Text → Text → Option (List ℕ) → C → Type 0) → (S → Recording × C)
    → List LoadedModule → Items → Type 0
KeepsMeaning {S} asks state ms items =
    (plan : Plan) (new : S) → first_lines plan ≡ firsts_of ms
    → Took asks state plan (events_in items) new
    → HasSteps plan (λ m. lines_crossed (crossings ms m items)) (state new).0.data

-- the statement lines of a module are lines that a text may have, as those of every text are
abbrev pub HasTextLines : LoadedModule → Type 0
HasTextLines m = All IsFirst (statement_lines m.body)

-- Within any budget: of a program whose script is there,
abbrev pub ProgramStepsLaw : {S C : Type 0}
    → (C → Text → Text → Option (List ℕ) → C → Type 0) → (S → Recording × C) → Type 0
ProgramStepsLaw asks state =
    (program : Program) → 0 < length (loaded program) → All HasTextLines (loaded program)
    → (words : List tree.Text) (input : List ℕ) (budget : ℕ)
    → KeepsMeaning asks state (loaded program) (meaning program words input budget).items

-- of one or more modules, whatever they were loaded from,
abbrev pub ModulesStepsLaw : {S C : Type 0}
    → (C → Text → Text → Option (List ℕ) → C → Type 0) → (S → Recording × C) → Type 0
ModulesStepsLaw asks state =
    (ms : List LoadedModule) → 0 < length ms → All HasTextLines ms
    → (words : List tree.Text) (input : List ℕ) (budget : ℕ)
    → KeepsMeaning asks state ms (run_modules ms words input budget).items

-- and of one call, on any world.
abbrev pub CallStepsLaw : {S C : Type 0}
    → (C → Text → Text → Option (List ℕ) → C → Type 0) → (S → Recording × C) → Type 0
CallStepsLaw asks state =
    (ms : List LoadedModule) → All HasTextLines ms
    → (w : World) (input : List ℕ) (r : Request) (budget : ℕ)
    → KeepsMeaning asks state ms (called ms w input r budget).items

-- two data have the same arcs and lines under each path
pub record HaveSameSteps (d e : DataSet) : Type 0 where
  pub arcs : (path : Text) → arcs_of d path ≡ arcs_of e path
  pub lines : (path : Text) → lines_of d path ≡ lines_of e path

-- Two recorders of one plan that took the same events have the same arcs and lines, each with
-- sources of its own. This holds of all events.
abbrev pub SameStepsLaw : {S C T D : Type 0}
    → (C → Text → Text → Option (List ℕ) → C → Type 0) → (S → Recording × C)
    → (D → Text → Text → Option (List ℕ) → D → Type 0) → (T → Recording × D) → Type 0
SameStepsLaw {S} {C} {T} asks state others seen =
    (plan : Plan) (events : List Event) (new : S) (other : T)
    → Took asks state plan events new → Took others seen plan events other
    → HaveSameSteps (state new).0.data (seen other).0.data
