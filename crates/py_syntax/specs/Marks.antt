-- The lines of a module that its execution marks.
--     in_order                   lines in their order
--     marking                    what each part of a text marks itself
--     stmts_marks, kind_marks    the marks of statements; suite_marks and the like for what stands
--                                in them
--     body_marks                 of the body of a module or a function
--     statement_lines            the lines of a module, in order
use Rattle.std.specs.Prelude.{ℕ, nat_eq, nat_lt, if◌then◌else◌, List, [], ◌∷◌}
use Rattle.py_syntax.specs.Functions.{is_docstring}
use Rattle.py_syntax.specs.Gathering.{Gathering, all_but, gather, gather_kind, gather_suite, gather_opt, gather_arms, gather_clauses, gather_cases, gather_body, gather_but}
use Rattle.py_syntax.specs.Tree.{Stmts, Suite, suite, OptSuite, Arms, Clauses, Cases, StmtKind, expr, assign, aug_assign, pass, break, continue, return, raise, assert, global, import, from, if', while, for, try, def, match}

-- lines in their order and one more, which stands in them once
abbrev pub with_line : ℕ → List ℕ → List ℕ
with_line l [] = l ∷ []
with_line l (k ∷ ks) =
    if nat_lt l k then l ∷ k ∷ ks else (if nat_eq l k then k ∷ ks else k ∷ with_line l ks)

-- lines put in their order, each once
abbrev pub in_order : List ℕ → List ℕ
in_order [] = []
in_order (l ∷ ls) = with_line l (in_order ls)

-- The first lines of all that marks: simple statements but `global`, each `def`, each `try`, the
-- tests of loops, `for` headers and subjects. Each test of an `if` marks its own line.
abbrev pub own_mark : ℕ → StmtKind → List ℕ
own_mark l (expr e) = l ∷ []
own_mark l (assign ts e) = l ∷ []
own_mark l (aug_assign t op e) = l ∷ []
own_mark l pass = l ∷ []
own_mark l break = l ∷ []
own_mark l continue = l ∷ []
own_mark l (return e) = l ∷ []
own_mark l (raise e) = l ∷ []
own_mark l (assert e w) = l ∷ []
own_mark l (global xs) = []
own_mark l (import names) = l ∷ []
own_mark l (from m names) = l ∷ []
own_mark l (if' arms o) = []
own_mark l (while t s o) = l ∷ []
own_mark l (for t e s o) = l ∷ []
own_mark l (try s cs o fin) = l ∷ []
own_mark l (def x ps ds c s) = l ∷ []
own_mark l (match e last cs) = l ∷ []

-- the line of the header in front of a suite
abbrev pub header_mark : Suite → List ℕ
header_mark (suite first last inline b) = first ∷ []

-- The tests of `if` and `elif`, clauses and cases mark the lines of their headers. A string that
-- leads a module or a function marks nothing.
abbrev pub marking : Gathering ℕ
marking = record {
  of_kind = λ first last k. own_mark first k;
  of_arm = λ t s. header_mark s;
  of_clause = λ e x s. header_mark s;
  of_case = λ p g s. header_mark s;
  within = all_but is_docstring;
}

-- the marks of statements in a row, in the order of the text
abbrev pub stmts_marks : Stmts → List ℕ
stmts_marks ss = gather marking ss

-- of a statement with this first line
abbrev pub kind_marks : ℕ → StmtKind → List ℕ
kind_marks first k = gather_kind marking (own_mark first k) k

-- of a suite
abbrev pub suite_marks : Suite → List ℕ
suite_marks s = gather_suite marking s

-- of the suite of an `else` or a `finally`, which may be missing
abbrev pub opt_marks : OptSuite → List ℕ
opt_marks o = gather_opt marking o

-- of the tests of an `if`
abbrev pub arms_marks : Arms → List ℕ
arms_marks arms = gather_arms marking arms

-- of the clauses of a `try`
abbrev pub clauses_marks : Clauses → List ℕ
clauses_marks cs = gather_clauses marking cs

-- of the cases of a `match`
abbrev pub cases_marks : Cases → List ℕ
cases_marks cs = gather_cases marking cs

-- of the suite of a `def`
abbrev pub function_marks : Suite → List ℕ
function_marks s = gather_body marking is_docstring s

-- of the body of a module or a function
abbrev pub body_marks : Stmts → List ℕ
body_marks ss = gather_but marking is_docstring ss

-- the statement lines of a module, in order, each once
abbrev pub statement_lines : Stmts → List ℕ
statement_lines m = in_order (body_marks m)
