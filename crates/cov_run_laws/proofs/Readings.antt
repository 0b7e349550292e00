-- Each module of a loaded program was read from a file.
use Rattle.std.proofs.Common.{◌≡◌, ℕ, List, Some, Result, Ok}
use Rattle.std.specs.Prelude.{slice_get}
use Rattle.cov_outside.specs.declared.shelf.ShelfError.{ShelfError}
use Rattle.py_syntax.specs.Tree.{Text}
use Rattle.py_meaning.specs.Modules.{LoadedModule}
use Rattle.cov_run.specs.Loading.{IsRead, content_at}
use Rattle.cov_run.specs.Loads.{Loads}

module _ {H : Type 0} (moves : H → List ℕ → ℕ → Result (List ℕ) ShelfError → H → Type 0) (old new : H) (script name : Text) (ms : List LoadedModule) (loads : Loads moves old script name (Ok ms) new) where
  pub reading : (i : ℕ) (m : LoadedModule) → slice_get ms i ≡ Some m → IsRead (content_at loads.some.0 i m.path) m
  reading i m is = (loads.comes loads.some.0 loads.some.1).0.loaded.read i m is
