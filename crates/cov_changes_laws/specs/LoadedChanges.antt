-- What the laws of changes ask of old modules holds of each loaded program whose script marks a
-- line, since its modules were read from texts.
use Rattle.std.specs.Prelude.{ℕ, ◌<◌, List, All, Result, Ok}
use Rattle.cov_outside.specs.declared.shelf.ShelfError.{ShelfError}
use Rattle.py_changes.specs.Regular.{MarksSomething, IsRegular}
use Rattle.py_meaning.specs.Modules.{LoadedModule, body_of}
use Rattle.py_syntax.specs.Marks.{statement_lines}
use Rattle.py_syntax.specs.Tree.{Text}
use Rattle.cov_run.specs.Loads.{Loads}

-- Reads of a shelf loaded the modules. Then each `if` has a test, no `def` stands in a function, and
-- the statement lines are from 1 on.
abbrev pub LoadedAreRegular : {H : Type 0}
    → (H → List ℕ → ℕ → Result (List ℕ) ShelfError → H → Type 0) → Type 0
LoadedAreRegular {H = H} moves =
    (old new : H) (script name : Text) (ms : List LoadedModule)
    → Loads moves old script name (Ok ms) new → MarksSomething (body_of ms 0)
    → IsRegular ms × ((m : ℕ) → All (λ l. 0 < l) (statement_lines (body_of ms m)))
