-- The places of a recorder's rows: the steps that events tell, without sets, labels and paths.
--     Step, steps_now, steps_of, steps_told   a module and an arc; those that events tell
--     is_counted                              a step that has a counter
--     spot, spot_of                           the path and the arc of a row, and of a step
--     HasPlaces                               data with a row's place for each step that counts
--     RecordedPlacesLaw                       so it is of a recorder
--     mine                                    the steps in a module
--     to_line, on_line                        an arc to a line, as line data show it
--     HasPlacesOf                             steps as often as items cross them
--     ProgramPlacesLaw, ModulesPlacesLaw, CallPlacesLaw   so it is of each run
use Rattle.std.specs.Prelude.{◌≡◌, ℕ, ◌<◌, zero, suc, nat_eq, Bool, true, false, if◌then◌else◌, List, [], ◌∷◌, ◌++◌, length, map, filter, All, ℤ, pos, negsuc, Option, Some, None, count_by}
use Rattle.cov_event.specs.declared.event.Event.{Event}
use Rattle.cov_event.specs.declared.event.Event.TheVariants.{Call, Line, Throw, Return}
use Rattle.cov_data.specs.DataSet.{Text, DataSet}
use Rattle.cov_data.specs.Rows.{RowView}
use Rattle.py_syntax.specs.Prediction.{Arc}
use Rattle.py_syntax.specs.Tree as tree
use Rattle.py_builtins.specs.World.{World}
use Rattle.py_meaning.specs.Activations.{Items}
use Rattle.py_meaning.specs.Crossings.{ends, crossings}
use Rattle.py_meaning.specs.Events.{events_in}
use Rattle.py_meaning.specs.Loading.{Program, loaded}
use Rattle.py_meaning.specs.Modules.{LoadedModule}
use Rattle.py_meaning.specs.Program.{run_modules, meaning, Request, called}
use Rattle.cov_arcs.specs.Laws.{firsts_of}
use Rattle.cov_recorder.specs.Plan.{Named, Plan, unit_of, set_of, path_of}
use Rattle.cov_recorder.specs.Recording.{Open, Recording, after, is_line, has_arc, step}
use Rattle.cov_recorder.specs.Laws.{all_paths, IsCounted}
use Rattle.cov_recorder_laws.specs.Laws.{first_lines, Took, HasTextLines}

-- an arc that a frame of this module takes; in line data both numbers are the line
abbrev pub Step : Type 0
Step = ℕ × Arc

-- that of a frame of this unit, to this line
abbrev pub step_in : Plan → Open → Option Named → ℕ → List Step
step_in plan frame None line = []
step_in plan frame (Some unit) line =
    (frame.code.module, step plan.arcs unit.first frame.line line) ∷ []

-- that of the innermost frame
abbrev pub steps_now : Plan → List Open → ℕ → List Step
steps_now plan [] line = []
steps_now plan (frame ∷ outer) line = step_in plan frame (unit_of plan frame.code) line

-- that of an event
abbrev pub steps_of : Plan → List Open → Event → List Step
steps_of plan frames (Call code) = []
steps_of plan frames (Line line) = if is_line line then steps_now plan frames line else []
steps_of plan frames (Throw kind) = []
steps_of plan frames Return = if plan.arcs then steps_now plan frames 0 else []

-- those of a list of events, one after another
abbrev pub steps_told : Plan → List Open → List Event → List Step
steps_told plan frames [] = []
steps_told plan frames (event ∷ rest) =
    steps_of plan frames event ++ steps_told plan (after None frames event) rest

-- whether the set of its module has a step
abbrev pub is_counted : Plan → Step → Bool
is_counted plan s = has_arc (set_of plan s.0) s.1

-- the path and the arc of a row
abbrev pub spot : RowView → Text × Arc
spot row = (row.path, (row.from, row.to))

-- those of a step
abbrev pub spot_of : Plan → Step → Text × Arc
spot_of plan s = (path_of plan s.0, s.1)

-- Data count rows, and these are, but for their contexts, the steps that the events tell and that
-- have a counter: each once, and in this order.
pub record HasPlaces (plan : Plan) (events : List Event) (d : DataSet) : Type 0 where
  pub rows : List RowView
  pub counted : IsCounted plan.arcs (all_paths plan events) rows d
  pub spots : map spot rows
      ≡ map (spot_of plan) (filter (is_counted plan) (steps_told plan [] events))

-- So it is of a recorder that took events, of all events and whatever its labels were.
abbrev pub RecordedPlacesLaw : {S C : Type 0}
    → (C → Text → Text → Option (List ℕ) → C → Type 0) → (S → Recording × C) → Type 0
RecordedPlacesLaw {S} asks state =
    (plan : Plan) (events : List Event) (new : S) → Took asks state plan events new
    → HasPlaces plan events (state new).0.data

-- the arcs of the steps in a module
abbrev pub mine : ℕ → List Step → List Arc
mine m steps = map (λ s. s.1) (filter (λ s. nat_eq s.0 m) steps)

-- whether a number is that of a line
abbrev pub is_number : ℤ → Bool
is_number (pos zero) = false
is_number (pos (suc line)) = true
is_number (negsuc n) = false

-- whether an arc comes to a line, and so doesn't leave its body
abbrev pub to_line : Arc → Bool
to_line a = is_number a.1

-- the line that an arc comes to, as line data show it
abbrev pub on_line : Arc → Arc
on_line a = (a.1, a.1)

-- Among the arcs that line data show: those on lines to which arcs come.
abbrev pub shown_arcs : Bool → List Arc → List Arc
shown_arcs true arcs = arcs
shown_arcs false arcs = map on_line (filter to_line arcs)

-- In each module, events tell each kind of step as often as items cross it.
pub record HasPlacesOf (plan : Plan) (ms : List LoadedModule) (items : Items) : Type 0 where
  pub places : (m : ℕ) (p : Arc → Bool) →
      count_by p (mine m (steps_told plan [] (events_in items)))
      ≡ count_by p (shown_arcs plan.arcs (map ends (crossings ms m items)))

-- so it is of a plan with the units of these modules
abbrev pub PlanPlaces : List LoadedModule → Items → Type 0
PlanPlaces ms items = (plan : Plan) → first_lines plan ≡ firsts_of ms → HasPlacesOf plan ms items

-- Within any budget: of a program whose script is there,
abbrev pub ProgramPlacesLaw : Type 0
ProgramPlacesLaw =
    (program : Program) → 0 < length (loaded program) → All HasTextLines (loaded program)
    → (words : List tree.Text) (input : List ℕ) (budget : ℕ)
    → PlanPlaces (loaded program) (meaning program words input budget).items

-- of one or more modules,
abbrev pub ModulesPlacesLaw : Type 0
ModulesPlacesLaw =
    (ms : List LoadedModule) → 0 < length ms → All HasTextLines ms
    → (words : List tree.Text) (input : List ℕ) (budget : ℕ)
    → PlanPlaces ms (run_modules ms words input budget).items

-- and of one call.
abbrev pub CallPlacesLaw : Type 0
CallPlacesLaw =
    (ms : List LoadedModule) → All HasTextLines ms
    → (w : World) (input : List ℕ) (r : Request) (budget : ℕ)
    → PlanPlaces ms (called ms w input r budget).items
