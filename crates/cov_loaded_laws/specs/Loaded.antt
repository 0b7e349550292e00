-- A loaded program is one that can be measured.
--     LoadedHaveTextLines     its modules are in lines that a text may have
--     IsMeasurable            what `measure` asks of its programs, and of trees beside them
--     LoadedLaw               so it is of a loaded program
use Rattle.std.specs.Prelude.{ℕ, ◌<◌, ◌≤◌, List, length, All, Contains, Result, Ok}
use Rattle.cov_outside.specs.declared.shelf.ShelfError.{ShelfError}
use Rattle.py_code.specs.Loaded.{modules_of, most_numbered}
use Rattle.py_meaning.specs.Modules.{LoadedModule, body_of}
use Rattle.py_syntax.specs.Prediction.{Arc, possible}
use Rattle.py_syntax.specs.Tree.{Text}
use Rattle.cov_recorder.specs.Plan.{HaveFirsts, set_at}
use Rattle.cov_recorder_laws.specs.Laws.{HasTextLines}
use Rattle.cov_run.specs.declared.programs.Loaded.{Loaded}
use Rattle.cov_run.specs.Loads.{IsCompiled, Loads, loaded_modules}
use Rattle.cov_measure_laws.specs.Units.{program_units}
use Rattle.cov_measure.specs.Measuring.{AreMeasured}

-- reads of a shelf loaded the modules
abbrev pub LoadedHaveTextLines : {H : Type 0}
    → (H → List ℕ → ℕ → Result (List ℕ) ShelfError → H → Type 0) → Type 0
LoadedHaveTextLines {H = H} moves =
    (old new : H) (script name : Text) (ms : List LoadedModule)
    → Loads moves old script name (Ok ms) new → All HasTextLines ms

-- There is a script, its modules can be numbered, and each unit begins in a line that a text may
-- have. With sets that hold what is possible, its trees are those that are measured.
pub record IsMeasurable (l : Loaded) : Type 0 where
  pub some : 0 < length (modules_of l.programs)
  pub few : length (modules_of l.programs) ≤ most_numbered
  pub begin : HaveFirsts (program_units l.programs.modules.items)
  pub trees : (sets : List (List Arc))
      → ((m : ℕ) → m < length (loaded_modules l) → (a : Arc)
      → Contains (possible (body_of (loaded_modules l) m)) a → Contains (set_at sets m) a)
      → AreMeasured l.programs sets (loaded_modules l)

-- Its code is faithful to its trees, and their lines are those of texts.
abbrev pub LoadedLaw : Type 0
LoadedLaw =
    (l : Loaded) → IsCompiled l → All HasTextLines (loaded_modules l) → IsMeasurable l
