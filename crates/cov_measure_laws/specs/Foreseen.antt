-- What the text of a module tells of recorded data.
--     IsForeseenArc                  a possible arc, predicted or thrown at each of its places
--     HasForeseen                    data with such arcs and with lines to which they come
--     ForeseenDataLaw                so it is of data that have what foreseen items cross
--     KeepsForeseenData              so it is of a recorder that took the events of items
--     ProgramForeseenDataLaw, ModulesForeseenDataLaw, CallForeseenDataLaw    of each run
use Rattle.std.specs.Prelude.{◌≡◌, ◌⊎◌, ℕ, ◌<◌, true, false, List, length, map, All, Contains, ℤ, pos, Option, IsTrue}
use Rattle.cov_data.specs.DataSet.{Text, DataSet}
use Rattle.cov_data.specs.Rows.{arcs_of, lines_of}
use Rattle.py_syntax.specs.Prediction.{Arc, predicted, possible}
use Rattle.py_syntax.specs.Tree as tree
use Rattle.py_builtins.specs.World.{World}
use Rattle.py_meaning.specs.Activations.{Items}
use Rattle.py_meaning.specs.Crossings.{ends, crossings, lines_crossed}
use Rattle.py_meaning.specs.Events.{events_in}
use Rattle.py_meaning.specs.Loading.{Program, loaded}
use Rattle.py_meaning.specs.Modules.{LoadedModule, body_of}
use Rattle.py_meaning.specs.Program.{run_modules, meaning, Request, called}
use Rattle.py_prediction_laws.specs.Sound.{IsProper, AreForeseen}
use Rattle.cov_arcs.specs.Laws.{firsts_of}
use Rattle.cov_recorder.specs.Plan.{Plan, path_of}
use Rattle.cov_recorder.specs.Recording.{Recording}
use Rattle.cov_recorder_laws.specs.Laws.{first_lines, HasSteps, Took, HasTextLines}

-- An arc that an activation in this module took. It is possible there; and it is predicted, or an
-- exception crossed it at each of its places.
pub record IsForeseenArc (ms : List LoadedModule) (items : Items) (m : ℕ) (a : Arc) : Type 0 where
  pub taken : Contains (map ends (crossings ms m items)) a
  pub possible : Contains (possible (body_of ms m)) a
  pub foreseen : Contains (predicted (body_of ms m)) a
      ⊎ All (λ c. ends c ≡ a → IsTrue c.thrown) (crossings ms m items)

-- Each arc in data of arcs is such an arc of a module of its path, and each line in data of lines
-- is one that such an arc comes to.
pub record HasForeseen (plan : Plan) (ms : List LoadedModule) (items : Items) (d : DataSet)
    : Type 0 where
  pub arcs : plan.arcs ≡ true → (path : Text) (a : Arc) → Contains (arcs_of d path) a
      → (m : ℕ) × (path_of plan m ≡ path) × IsForeseenArc ms items m a
  pub lines : plan.arcs ≡ false → (path : Text) (line : ℕ) → 0 < line
      → Contains (lines_of d path) line
      → (m : ℕ) × (from : ℤ) × (path_of plan m ≡ path) × IsForeseenArc ms items m (from, pos line)

-- So it is of data that have what foreseen items cross, whatever has a counter.
abbrev pub ForeseenDataLaw : Type 0
ForeseenDataLaw =
    (plan : Plan) (ms : List LoadedModule) (items : Items) (d : DataSet) → AreForeseen ms items
    → HasSteps plan (λ m. lines_crossed (crossings ms m items)) d → HasForeseen plan ms items d

-- So it is of a recorder whose plan has the units of these modules, and that took the events of
-- these items.
abbrev pub KeepsForeseenData : {S C : Type 0}
    → (C → Text → Text → Option (List ℕ) → C → Type 0) → (S → Recording × C)
    → List LoadedModule → Items → Type 0
KeepsForeseenData {S} asks state ms items =
    (plan : Plan) (new : S) → first_lines plan ≡ firsts_of ms
    → Took asks state plan (events_in items) new → HasForeseen plan ms items (state new).0.data

-- Within any budget: of a program whose script is there,
abbrev pub ProgramForeseenDataLaw : {S C : Type 0}
    → (C → Text → Text → Option (List ℕ) → C → Type 0) → (S → Recording × C) → Type 0
ProgramForeseenDataLaw asks state =
    (program : Program) → 0 < length (loaded program) → All HasTextLines (loaded program)
    → All IsProper (loaded program) → (words : List tree.Text) (input : List ℕ) (budget : ℕ)
    → KeepsForeseenData asks state (loaded program) (meaning program words input budget).items

-- of one or more modules,
abbrev pub ModulesForeseenDataLaw : {S C : Type 0}
    → (C → Text → Text → Option (List ℕ) → C → Type 0) → (S → Recording × C) → Type 0
ModulesForeseenDataLaw asks state =
    (ms : List LoadedModule) → 0 < length ms → All HasTextLines ms → All IsProper ms
    → (words : List tree.Text) (input : List ℕ) (budget : ℕ)
    → KeepsForeseenData asks state ms (run_modules ms words input budget).items

-- and of one call.
abbrev pub CallForeseenDataLaw : {S C : Type 0}
    → (C → Text → Text → Option (List ℕ) → C → Type 0) → (S → Recording × C) → Type 0
CallForeseenDataLaw asks state =
    (ms : List LoadedModule) → All HasTextLines ms → All IsProper ms
    → (w : World) (input : List ℕ) (r : Request) (budget : ℕ)
    → KeepsForeseenData asks state ms (called ms w input r budget).items
