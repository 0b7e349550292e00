-- How far loading has come.
--     StandsAt          by what was told of the files
--     HasCome       by reads of a shelf
use Rattle.std.specs.Prelude.{◌≡◌, ℕ, suc, ◌<◌, true, false, List, All, length, take, slice_get, Some, Result}
use Rattle.cov_outside.specs.declared.shelf.ShelfError.{ShelfError}
use Rattle.cov_outside.specs.Reads.{Read, Reads}
use Rattle.py_syntax.specs.Names.{is_among, distinct}
use Rattle.py_syntax.specs.Tree.{Text}
use Rattle.py_meaning.specs.Loading.{folder_of}
use Rattle.py_meaning.specs.Modules.{LoadedModule}
use Rattle.cov_run.specs.Asking.{Agrees, asked_for, names_read}
use Rattle.cov_run.specs.Loading.{most_bytes, Told, all_imported, is_wanted, total_bytes, AreLoaded}
use Rattle.cov_run.specs.State.{State}

-- The modules so far are loaded, and the imported names before this place are settled: none of them
-- is wanted any more.
pub record StandsAt (told : Told) (script name : Text) (s : State) (at : ℕ) : Type 0 where
  pub loaded : AreLoaded told script name s.modules
  pub some : 0 < length s.modules
  pub names : s.names ≡ distinct (all_imported s.modules)
  pub total : s.bytes ≡ total_bytes told s.modules
  pub seen :
      (i : ℕ) (m : LoadedModule) → slice_get s.modules (suc i) ≡ Some m
      → is_among (take at s.names) m.name ≡ true
  pub settled :
      (x : Text) → is_among (take at s.names) x ≡ true
      → is_wanted told.modules (folder_of script) s.modules x ≡ false

-- Reads led a shelf from one state to another: those of the script and of the names before this
-- place. Whatever contents agree with their answers, loading has come so far; and there are such.
pub record HasCome {H : Type 0}
    (moves : H → List ℕ → ℕ → Result (List ℕ) ShelfError → H → Type 0) (old : H)
    (script name : Text) (s : State) (at : ℕ) (new : H) : Type 0 where
  pub made : List Read
  pub led : Reads moves old made new
  pub limit : All (λ r. r.most ≡ most_bytes) made
  pub names : names_read made ≡ asked_for script (take at s.names)
  pub come : (told : Told) → Agrees told made → StandsAt told script name s at
  pub some : (told : Told) × Agrees told made
