-- The lines of data of arcs, and those of data of lines of the same run.
--     IsEnd, LinesOfArcsLaw       the lines of data of arcs are the lines in their arcs
--     IsRunLine                   a line of a path, to which a module of that path came
--     KeepsLines                  a recorder keeps those lines, in data of both kinds
--     ModulesLinesLaw, CallLinesLaw    of each run
use Rattle.std.specs.Prelude.{◌≡◌, ◌↔◌, ◌⊎◌, ℕ, ◌<◌, true, List, length, All, Contains, ℤ, pos, Option}
use Rattle.cov_data.specs.DataSet.{Text, DataSet}
use Rattle.cov_data.specs.Rows.{arcs_of, lines_of}
use Rattle.py_syntax.specs.Prediction.{Arc}
use Rattle.py_syntax.specs.Tree as tree
use Rattle.py_builtins.specs.World.{World}
use Rattle.py_meaning.specs.Activations.{Items}
use Rattle.py_meaning.specs.Crossings.{crossings, lines_crossed}
use Rattle.py_meaning.specs.Events.{events_in}
use Rattle.py_meaning.specs.Modules.{LoadedModule}
use Rattle.py_meaning.specs.Program.{run_modules, Request, called}
use Rattle.py_prediction_laws.specs.Sound.{IsProper}
use Rattle.cov_arcs.specs.Laws.{firsts_of}
use Rattle.cov_recorder.specs.Plan.{Plan, path_of}
use Rattle.cov_recorder.specs.Recording.{Recording}
use Rattle.cov_recorder_laws.specs.Laws.{first_lines, Took, HasTextLines}
use Rattle.cov_measure_laws.specs.Whole.{IsWhole}

-- the line is one of the two numbers of the arc
abbrev pub IsEnd : ℕ → Arc → Type 0
IsEnd line a = (a.0 ≡ pos line) ⊎ (a.1 ≡ pos line)

-- The lines of data of arcs are the positive numbers in their arcs.
abbrev pub LinesOfArcsLaw : Type 0
LinesOfArcsLaw =
    (d : DataSet) → d.arcs ≡ true → (path : Text) (line : ℕ) → 0 < line
    → Contains (lines_of d path) line
    ↔ ((a : Arc) × Contains (arcs_of d path) a × IsEnd line a)

-- an activation in a module of this path came to the line
abbrev pub IsRunLine : Plan → List LoadedModule → Items → Text → ℕ → Type 0
IsRunLine plan ms items path line =
    (m : ℕ) × (from : ℤ) × (path_of plan m ≡ path)
    × Contains (lines_crossed (crossings ms m items)) (from, pos line)

-- With a whole plan a recorder keeps these lines, whether its data are of arcs or of lines. So two
-- recorders of the same units have the same lines.
pub record KeepsLines {S C : Type 0} (asks : C → Text → Text → Option (List ℕ) → C → Type 0)
    (state : S → Recording × C) (ms : List LoadedModule) (items : Items) : Type 0 where
  pub lines : (plan : Plan) (new : S) → first_lines plan ≡ firsts_of ms → IsWhole plan ms
      → Took asks state plan (events_in items) new → (path : Text) (line : ℕ) → 0 < line
      → Contains (lines_of (state new).0.data path) line ↔ IsRunLine plan ms items path line
  pub same : (plan other : Plan) (new later : S) → plan.units ≡ other.units
      → first_lines plan ≡ firsts_of ms → IsWhole plan ms → IsWhole other ms
      → Took asks state plan (events_in items) new → Took asks state other (events_in items) later
      → (path : Text) → lines_of (state new).0.data path ≡ lines_of (state later).0.data path

-- Within any budget: of one or more modules,
abbrev pub ModulesLinesLaw : {S C : Type 0}
    → (C → Text → Text → Option (List ℕ) → C → Type 0) → (S → Recording × C) → Type 0
ModulesLinesLaw asks state =
    (ms : List LoadedModule) → 0 < length ms → All HasTextLines ms → All IsProper ms
    → (words : List tree.Text) (input : List ℕ) (budget : ℕ)
    → KeepsLines asks state ms (run_modules ms words input budget).items

-- and of one call.
abbrev pub CallLinesLaw : {S C : Type 0}
    → (C → Text → Text → Option (List ℕ) → C → Type 0) → (S → Recording × C) → Type 0
CallLinesLaw asks state =
    (ms : List LoadedModule) → All HasTextLines ms → All IsProper ms
    → (w : World) (input : List ℕ) (r : Request) (budget : ℕ)
    → KeepsLines asks state ms (called ms w input r budget).items
