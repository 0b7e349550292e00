-- What the laws of changes ask of modules, as loading gives it.
use Rattle.std.specs.Prelude.{ℕ, ◌<◌, List, All}
use Rattle.py_changes.specs.Regular.{MarksSomething, IsRegular}
use Rattle.py_meaning.specs.Modules.{LoadedModule, body_of}
use Rattle.py_syntax.specs.Marks.{statement_lines}

-- Where the script marks a line, each `if` has a test and no `def` stands in a function, and the
-- statement lines are from 1 on. A script that marks none has no tests and imports nothing.
abbrev pub AreRegular : List LoadedModule → Type 0
AreRegular ms =
    MarksSomething (body_of ms 0)
    → IsRegular ms × ((m : ℕ) → All (λ l. 0 < l) (statement_lines (body_of ms m)))
