-- The file that is asked for next.
use Rattle.std.specs.Prelude.{◌≡◌, ℕ, List, Result, Err}
use Rattle.cov_outside.specs.declared.shelf.ShelfError.{ShelfError}
use Rattle.py_syntax.specs.Tree.{Text}
use Rattle.cov_why.specs.Answers.{shelf_fault}
use Rattle.cov_run.specs.Loading.{Told}
use Rattle.cov_run.specs.Loads.{EndsFailed, IsAskedNext, Loads}

-- after the files of these names one file at most is asked for
abbrev pub OneNext : Type 0
OneNext =
    (told : Told) (script name : Text) (names : List (List ℕ)) (a b : Text)
    → IsAskedNext told script name names a → IsAskedNext told script name names b → a ≡ b

-- a failed read of the file that is asked for next is all that loading says of such a fault
abbrev pub FailingLoads : {H : Type 0}
    → (H → List ℕ → ℕ → Result (List ℕ) ShelfError → H → Type 0) → Type 0
FailingLoads {H = H} moves =
    (old new : H) (script name : Text) → EndsFailed moves old script name new
    → Loads moves old script name (Err shelf_fault) new
