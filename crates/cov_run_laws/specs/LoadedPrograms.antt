-- What holds of each loaded program, since its modules were read from texts.
--     LoadedMakes          its code makes functions as its units ask
--     LoadedAreProper      its modules are such as the laws of prediction ask for
use Rattle.std.specs.Prelude.{ℕ, List, All, Result, Ok}
use Rattle.cov_outside.specs.declared.shelf.ShelfError.{ShelfError}
use Rattle.py_code.specs.Loaded.{modules_of}
use Rattle.py_world_laws.specs.Making.{AreMakers}
use Rattle.py_meaning.specs.Modules.{LoadedModule}
use Rattle.py_prediction_laws.specs.Sound.{IsProper}
use Rattle.py_syntax.specs.Tree.{Text}
use Rattle.cov_run.specs.declared.programs.Loaded.{Loaded}
use Rattle.cov_run.specs.Loads.{IsCompiled, Loads, loaded_modules}

-- reads of a shelf loaded the modules of the program, and its code is that of these modules
abbrev pub LoadedMakes : {H : Type 0}
    → (H → List ℕ → ℕ → Result (List ℕ) ShelfError → H → Type 0) → Type 0
LoadedMakes {H = H} moves =
    (old new : H) (script name : Text) (l : Loaded)
    → Loads moves old script name (Ok (loaded_modules l)) new → IsCompiled l
    → AreMakers (modules_of l.programs)

-- reads of a shelf loaded the modules
abbrev pub LoadedAreProper : {H : Type 0}
    → (H → List ℕ → ℕ → Result (List ℕ) ShelfError → H → Type 0) → Type 0
LoadedAreProper {H = H} moves =
    (old new : H) (script name : Text) (ms : List LoadedModule)
    → Loads moves old script name (Ok ms) new → All IsProper ms
