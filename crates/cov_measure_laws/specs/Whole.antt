-- A plan whose sets leave nothing out, and the data of events without any set.
--     IsWhole                        each set holds what is possible in its module
--     WholePlanLaw                   so it is of a plan of sets that hold it
--     all_in, all_now, all_rows      the rows that an event tells, whatever has a counter
--     TellsAll                       those that events tell, as the labels come
--     IsDataOf                       data of events, without sets
--     LeavesNothing                  events all of whose steps have a counter
--     WithoutSetsLaw                 there a recorder keeps the data without sets
--     HasAllSteps                    data that have all that was taken
--     KeepsAll                       a recorder that leaves out nothing that items cross
--     ProgramWholeLaw, ModulesWholeLaw, CallWholeLaw    of each run
use Rattle.std.specs.Prelude.{◌≡◌, ◌↔◌, ℕ, ◌<◌, Bool, true, false, if◌then◌else◌, List, [], ◌∷◌, ◌++◌, length, All, Contains, ℤ, pos, Option, Some, None, IsTrue}
use Rattle.cov_event.specs.declared.event.Event.{Event}
use Rattle.cov_event.specs.declared.event.Event.TheVariants.{Call, Line, Throw, Return}
use Rattle.cov_event.specs.Moves.{Takes}
use Rattle.cov_data.specs.DataSet.{Text, DataSet}
use Rattle.cov_data.specs.Rows.{RowView, arcs_of, lines_of}
use Rattle.py_syntax.specs.Prediction.{Arc, possible}
use Rattle.py_syntax.specs.Tree as tree
use Rattle.py_builtins.specs.World.{World}
use Rattle.py_meaning.specs.Activations.{Items}
use Rattle.py_meaning.specs.Crossings.{crossings, lines_crossed}
use Rattle.py_meaning.specs.Events.{events_in}
use Rattle.py_meaning.specs.Loading.{Program, loaded}
use Rattle.py_meaning.specs.Modules.{LoadedModule, body_of}
use Rattle.py_meaning.specs.Program.{run_modules, meaning, Request, called}
use Rattle.py_prediction_laws.specs.Sound.{IsProper}
use Rattle.cov_arcs.specs.Laws.{firsts_of}
use Rattle.cov_recorder.specs.Plan.{Named, Plan, plan_of, unit_of, set_at, set_of, path_of}
use Rattle.cov_recorder.specs.Recording.{Open, Recording, at_first, after, is_line, step, context_of, one_row}
use Rattle.cov_recorder.specs.Labels.{Labelled, IsNext}
use Rattle.cov_recorder.specs.Laws.{all_paths, IsCounted}
use Rattle.cov_recorder_laws.specs.Laws.{first_lines, HasTextLines, Took}
use Rattle.cov_measure_laws.specs.Places.{steps_told, is_counted, shown_arcs}

-- In each module there is a counter for each possible arc, or in data of lines for each line to
-- which such an arc comes.
pub record IsWhole (plan : Plan) (ms : List LoadedModule) : Type 0 where
  pub each : (m : ℕ) → m < length ms → (a : Arc)
      → Contains (shown_arcs plan.arcs (possible (body_of ms m))) a → Contains (set_of plan m) a

-- So it is of a plan that is made of sets that hold the possible arcs.
abbrev pub WholePlanLaw : Type 0
WholePlanLaw =
    (units : List (List Named)) (sets : List (List Arc)) (arcs : Bool) (fixed : Text)
    (ms : List LoadedModule)
    → ((m : ℕ) → m < length ms → (a : Arc) → Contains (possible (body_of ms m)) a
    → Contains (set_at sets m) a)
    → IsWhole (plan_of units sets arcs fixed) ms

-- ---- data of events, without sets

-- the row of a frame of a unit, at this line
abbrev pub all_in : Plan → Open → Option Named → ℕ → List RowView
all_in plan frame None line = []
all_in plan frame (Some unit) line =
    one_row (path_of plan frame.code.module) (context_of plan frame.label)
    (step plan.arcs unit.first frame.line line) ∷ []

-- that of the innermost frame
abbrev pub all_now : Plan → List Open → ℕ → List RowView
all_now plan [] line = []
all_now plan (frame ∷ outer) line = all_in plan frame (unit_of plan frame.code) line

-- the rows that an event tells
abbrev pub all_rows : Plan → List Open → Event → List RowView
all_rows plan frames (Call code) = []
all_rows plan frames (Line line) = if is_line line then all_now plan frames line else []
all_rows plan frames (Throw kind) = []
all_rows plan frames Return = if plan.arcs then all_now plan frames 0 else []

-- These events tell these rows, one for each place, where these frames are open. The sources of
-- labels go from one state to another. No set of the plan stands in that.
abbrev pub TellsAll : {C : Type 0} → (C → Text → Text → Option (List ℕ) → C → Type 0)
    → Plan → List Open → C → List Event → List RowView → C → Type 0
TellsAll asks plan frames old [] rows new = (rows ≡ []) × (new ≡ old)
TellsAll {C} asks plan frames old (event ∷ rest) rows new =
    (label : Option (List ℕ)) × (mid : C) × (later : List RowView)
    × Labelled asks plan frames event old label mid
    × TellsAll asks plan (after label frames event) mid rest later new
    × (rows ≡ all_rows plan frames event ++ later)

-- data of events: paths and rows, each row with the number of its places
pub record IsDataOf {C : Type 0} (asks : C → Text → Text → Option (List ℕ) → C → Type 0)
    (plan : Plan) (old : C) (events : List Event) (d : DataSet) (new : C) : Type 0 where
  pub rows : List RowView
  pub told : TellsAll asks plan [] old events rows new
  pub counted : IsCounted plan.arcs (all_paths plan events) rows d

-- each step that the events tell has a counter
abbrev pub LeavesNothing : Plan → List Event → Type 0
LeavesNothing plan events = All (λ s. IsTrue (is_counted plan s)) (steps_told plan [] events)

-- A recorder that took events which leave nothing out keeps their data without sets.
abbrev pub WithoutSetsLaw : {S C : Type 0}
    → (C → Text → Text → Option (List ℕ) → C → Type 0) → (S → Recording × C) → Type 0
WithoutSetsLaw {S} {C} asks state =
    (plan : Plan) (sources : C) (events : List Event) (old new : S)
    → state old ≡ (at_first plan, sources)
    → Takes (λ before event later. IsNext asks (state before) event (state later)) old events new
    → LeavesNothing plan events
    → IsDataOf asks plan sources events (state new).0.data (state new).1

-- ---- data of a run

-- Data of arcs have, under each path and in some context, exactly the arcs that modules of that
-- path took. So do data of lines with the lines to which they came.
pub record HasAllSteps (plan : Plan) (taken : ℕ → List (ℤ × ℤ)) (d : DataSet) : Type 0 where
  pub arcs : plan.arcs ≡ true → (path : Text) (a : ℤ × ℤ)
      → Contains (arcs_of d path) a
      ↔ ((m : ℕ) × (path_of plan m ≡ path) × Contains (taken m) a)
  pub lines : plan.arcs ≡ false → (path : Text) (line : ℕ) → 0 < line
      → Contains (lines_of d path) line
      ↔ ((m : ℕ) × (from : ℤ) × (path_of plan m ≡ path) × Contains (taken m) (from, pos line))

-- Where a plan has the units of these modules and a counter for all that is possible in them, the
-- events of these items leave nothing out. So a recorder that took them has all that the items
-- cross.
pub record KeepsAll {S C : Type 0} (asks : C → Text → Text → Option (List ℕ) → C → Type 0)
    (state : S → Recording × C) (ms : List LoadedModule) (items : Items) : Type 0 where
  pub nothing : (plan : Plan) → first_lines plan ≡ firsts_of ms → IsWhole plan ms
      → LeavesNothing plan (events_in items)
  pub steps : (plan : Plan) (new : S) → first_lines plan ≡ firsts_of ms → IsWhole plan ms
      → Took asks state plan (events_in items) new
      → HasAllSteps plan (λ m. lines_crossed (crossings ms m items)) (state new).0.data

-- Within any budget: of a program whose script is there,
abbrev pub ProgramWholeLaw : {S C : Type 0}
    → (C → Text → Text → Option (List ℕ) → C → Type 0) → (S → Recording × C) → Type 0
ProgramWholeLaw asks state =
    (program : Program) → 0 < length (loaded program) → All HasTextLines (loaded program)
    → All IsProper (loaded program) → (words : List tree.Text) (input : List ℕ) (budget : ℕ)
    → KeepsAll asks state (loaded program) (meaning program words input budget).items

-- of one or more modules,
abbrev pub ModulesWholeLaw : {S C : Type 0}
    → (C → Text → Text → Option (List ℕ) → C → Type 0) → (S → Recording × C) → Type 0
ModulesWholeLaw asks state =
    (ms : List LoadedModule) → 0 < length ms → All HasTextLines ms → All IsProper ms
    → (words : List tree.Text) (input : List ℕ) (budget : ℕ)
    → KeepsAll asks state ms (run_modules ms words input budget).items

-- and of one call.
abbrev pub CallWholeLaw : {S C : Type 0}
    → (C → Text → Text → Option (List ℕ) → C → Type 0) → (S → Recording × C) → Type 0
CallWholeLaw asks state =
    (ms : List LoadedModule) → All HasTextLines ms → All IsProper ms
    → (w : World) (input : List ℕ) (r : Request) (budget : ℕ)
    → KeepsAll asks state ms (called ms w input r budget).items
