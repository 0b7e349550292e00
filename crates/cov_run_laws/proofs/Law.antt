-- The modules of a loaded program have `def`s on lines of their own, so that its code makes functions as its units ask.
use Rattle.std.proofs.Common.{◌≡◌, ℕ, suc, List, [], ◌∷◌, Some, Result, refl}
use Rattle.std.specs.Prelude.{slice_get}
use Rattle.std.specs.Str.{chars}
use Rattle.cov_outside.specs.declared.shelf.ShelfError.{ShelfError}
use Rattle.py_syntax.specs.Functions.{functions}
use Rattle.py_meaning.specs.Modules.{LoadedModule}
use Rattle.py_code.specs.Loaded.{modules_of}
use Rattle.py_line_laws.specs.OwnLines.{HaveOwnLines, OwnLinesLaw}
use Rattle.py_making_laws.specs.Makers.{AreOnOwnLines, CodeMakesFunctions}
use Rattle.cov_run.specs.Loads.{loaded_modules}
use Rattle.cov_run_laws.specs.LoadedPrograms.{LoadedMakes}
use Rattle.cov_run_laws.proofs.Readings.{reading}

all_own : (ms : List LoadedModule) → ((i : ℕ) (m : LoadedModule) → slice_get ms i ≡ Some m → HaveOwnLines (functions m.body)) → AreOnOwnLines ms
all_own [] each = tt
all_own (m ∷ ms) each = (each 0 m refl, all_own ms (λ i n is. each (suc i) n is))

pub law : {H : Type 0} → OwnLinesLaw → CodeMakesFunctions → (moves : H → List ℕ → ℕ → Result (List ℕ) ShelfError → H → Type 0) → LoadedMakes moves
law own makes moves old new script name l loads compiled =
    makes (modules_of l.programs) (loaded_modules l) compiled.faithful compiled.well_formed
    (all_own (loaded_modules l) (λ i m is. let file = reading moves old new script name (loaded_modules l) loads i m is in let tree = file.read.0 in own (chars file.bytes) tree.tokens m.body tree.read.spelled tree.spelled))
