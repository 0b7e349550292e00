-- The lines of statements, of which the first may be a docstring.
use Rattle.std.specs.Prelude.{ℕ, Bool, ◌&&◌, if◌then◌else◌, List, []}
use Rattle.py_syntax.specs.Functions.{is_docstring}
use Rattle.py_syntax.specs.Marks.{stmts_marks, kind_marks, body_marks}
use Rattle.py_syntax.specs.Tree.{Stmts, StmtKind}

-- of a body where they lead it, and else of statements
abbrev pub lines_of : Bool → Stmts → List ℕ
lines_of leads ss = if leads then body_marks ss else stmts_marks ss

-- of a statement with this first line
abbrev pub first_marks : Bool → ℕ → StmtKind → List ℕ
first_marks leads line k = if leads && is_docstring k then [] else kind_marks line k
