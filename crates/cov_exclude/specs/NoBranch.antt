-- The lines whose branches needn't all be taken. (coverage.py documentation, "Structurally partial
-- branches")
--     touching                       the marks of each part of a tree itself that are touched
--     stmts_touched, kind_touched    the marks of statements and headers that are touched, and the
--                                    like for what stands in them
--     body_touched                   of the body of a module or a function
--     no_branch_lines                the no-branch lines of a module, in order
-- `touched` says of two lines whether a matched line lies between them.
use Rattle.std.specs.Prelude.{ℕ, Bool, List, []}
use Rattle.py_syntax.specs.Functions.{is_docstring}
use Rattle.py_syntax.specs.Gathering.{Gathering, all_but, gather, gather_kind, gather_opt, gather_arms, gather_clauses, gather_cases, gather_but}
use Rattle.py_syntax.specs.Marks.{in_order}
use Rattle.py_syntax.specs.Tree.{Stmts, Suite, suite, OptSuite, Arms, Clauses, Cases, StmtKind, expr, assign, aug_assign, pass, break, continue, return, raise, assert, global, import, from, if', while, for, try, def, match}
use Rattle.cov_predict.specs.Walk.{header_line}
use Rattle.cov_exclude.specs.Touched.{mark_if, touches}

-- the mark on this line of a header in front of a suite, where the header is touched
abbrev pub header_touched : (ℕ → ℕ → Bool) → ℕ → Suite → List ℕ
header_touched touched line (suite first last inline b) = mark_if (touched first last) line

-- A statement with this first and last line: its mark is touched where a matched line lies from the
-- first to the last line of a simple statement, or of the header. Each test of an `if` has its own.
abbrev pub own_touched : (ℕ → ℕ → Bool) → ℕ → ℕ → StmtKind → List ℕ
own_touched touched first last (expr e) = mark_if (touched first last) first
own_touched touched first last (assign ts e) = mark_if (touched first last) first
own_touched touched first last (aug_assign t op e) = mark_if (touched first last) first
own_touched touched first last pass = mark_if (touched first last) first
own_touched touched first last break = mark_if (touched first last) first
own_touched touched first last continue = mark_if (touched first last) first
own_touched touched first last (return e) = mark_if (touched first last) first
own_touched touched first last (raise e) = mark_if (touched first last) first
own_touched touched first last (assert e w) = mark_if (touched first last) first
own_touched touched first last (global xs) = []
own_touched touched first last (import names) = mark_if (touched first last) first
own_touched touched first last (from m names) = mark_if (touched first last) first
own_touched touched first last (if' arms o) = []
own_touched touched first last (while t s o) = header_touched touched first s
own_touched touched first last (for t e s o) = header_touched touched first s
own_touched touched first last (try s cs o fin) = header_touched touched first s
own_touched touched first last (def x ps ds c s) = header_touched touched first s
own_touched touched first last (match e header_last cs) = mark_if (touched first header_last) first

-- The headers of tests, clauses and cases mark their lines, those of `else` and `finally` nothing.
-- The docstring of a body marks nothing.
abbrev pub touching : (ℕ → ℕ → Bool) → Gathering ℕ
touching touched = record {
  of_kind = own_touched touched;
  of_arm = λ t s. header_touched touched (header_line s) s;
  of_clause = λ e x s. header_touched touched (header_line s) s;
  of_case = λ p g s. header_touched touched (header_line s) s;
  within = all_but is_docstring;
}

-- of statements in a row
abbrev pub stmts_touched : (ℕ → ℕ → Bool) → Stmts → List ℕ
stmts_touched touched ss = gather (touching touched) ss

-- of a statement with this first and last line
abbrev pub kind_touched : (ℕ → ℕ → Bool) → ℕ → ℕ → StmtKind → List ℕ
kind_touched touched first last k =
    gather_kind (touching touched) (own_touched touched first last k) k

-- of the suite of an `else` or a `finally`, which may be missing
abbrev pub opt_touched : (ℕ → ℕ → Bool) → OptSuite → List ℕ
opt_touched touched o = gather_opt (touching touched) o

-- of the tests of an `if`
abbrev pub arms_touched : (ℕ → ℕ → Bool) → Arms → List ℕ
arms_touched touched arms = gather_arms (touching touched) arms

-- of the clauses of a `try`
abbrev pub clauses_touched : (ℕ → ℕ → Bool) → Clauses → List ℕ
clauses_touched touched cs = gather_clauses (touching touched) cs

-- of the cases of a `match`
abbrev pub cases_touched : (ℕ → ℕ → Bool) → Cases → List ℕ
cases_touched touched cs = gather_cases (touching touched) cs

-- of the body of a module or a function
abbrev pub body_touched : (ℕ → ℕ → Bool) → Stmts → List ℕ
body_touched touched ss = gather_but (touching touched) is_docstring ss

-- the statement lines with a matched line in their statement or header, in order, each once
abbrev pub no_branch_lines : List ℕ → Stmts → List ℕ
no_branch_lines matched m = in_order (body_touched (touches matched) m)
