-- What the state of a search over statements means.
--     line_at                  the line of the mark that it stands at
--     at_line, marked          the state with that line
use Rattle.std.specs.Prelude.{ℕ}
use Rattle.py_changes.specs.Mutants.{Token, Marked}
use Rattle.cov_mutants_expr.specs.Search.{Reached, left, found}
use Rattle.cov_mutants_expr.specs.SearchView.{seen}
use Rattle.cov_mutants.specs.declared.marks.Marks.{Marks}

-- the line of the next mark, or that of the mutant that was reached
abbrev pub line_at : ℕ → ℕ → Reached Token → ℕ
line_at was l (left n) = l
line_at was l (found t) = was

-- the state of a search, and the line of what it reached
abbrev pub at_line : ℕ → Reached Token → Reached Marked
at_line l (left n) = left n
at_line l (found t) = found (l, t)

-- the state of a search over statements
abbrev pub marked : Marks → Reached Marked
marked m = at_line m.line (seen m.search)
