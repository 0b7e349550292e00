-- The arcs of the functions that a tree defines, part by part.
use Rattle.std.specs.Prelude.{ℕ, ℤ, Bool, List, []}
use Rattle.py_syntax.specs.Functions.{without_docstring}
use Rattle.py_syntax.specs.Gathering.{Gathering, nothing, gather, gather_kind, gather_suite, gather_opt, gather_arms, gather_clauses, gather_cases}
use Rattle.py_syntax.specs.Prediction.{Arc}
use Rattle.py_syntax.specs.Tree.{Stmts, Suite, suite, OptSuite, Arms, Clauses, Cases, StmtKind, expr, assign, aug_assign, pass, break, continue, return, raise, assert, global, import, from, if', while, for, try, def, match}
use Rattle.cov_predict.specs.Walk.{body_walk}

-- of a function with this first line, in which no other stands
abbrev pub function_defs : Bool → ℕ → Suite → List Arc
function_defs any l (suite f g inline b) = body_walk any l (without_docstring b)

-- of the function of a statement with this first line, where that is a `def`
abbrev pub own_defs : Bool → ℕ → StmtKind → List Arc
own_defs any l (expr e) = []
own_defs any l (assign ts e) = []
own_defs any l (aug_assign t op e) = []
own_defs any l pass = []
own_defs any l break = []
own_defs any l continue = []
own_defs any l (return e) = []
own_defs any l (raise e) = []
own_defs any l (assert e w) = []
own_defs any l (global xs) = []
own_defs any l (import names) = []
own_defs any l (from m names) = []
own_defs any l (if' arms o) = []
own_defs any l (while t s o) = []
own_defs any l (for t e s o) = []
own_defs any l (try s cs o fin) = []
own_defs any l (def x ps ds c s) = function_defs any l s
own_defs any l (match e last cs) = []

-- what each part of a tree gives itself
abbrev pub defining : Bool → Gathering Arc
defining any = record {
  of_kind = λ first last k. own_defs any first k;
  of_arm = λ t s. [];
  of_clause = λ e x s. [];
  of_case = λ p g s. [];
  within = nothing;
}

-- of statements in a row
abbrev pub stmts_defs : Bool → Stmts → List Arc
stmts_defs any ss = gather (defining any) ss

-- of a statement with this first line
abbrev pub kind_defs : Bool → ℕ → StmtKind → List Arc
kind_defs any l k = gather_kind (defining any) (own_defs any l k) k

-- of a suite
abbrev pub suite_defs : Bool → Suite → List Arc
suite_defs any s = gather_suite (defining any) s

-- of the suite of an `else` or a `finally`, which may be missing
abbrev pub opt_defs : Bool → OptSuite → List Arc
opt_defs any o = gather_opt (defining any) o

-- of the tests of an `if`
abbrev pub arms_defs : Bool → Arms → List Arc
arms_defs any arms = gather_arms (defining any) arms

-- of the clauses of a `try`
abbrev pub clauses_defs : Bool → Clauses → List Arc
clauses_defs any cs = gather_clauses (defining any) cs

-- of the cases of a `match`
abbrev pub cases_defs : Bool → Cases → List Arc
cases_defs any cs = gather_cases (defining any) cs
