-- The `def`s of a text, and how many of their last parameters have defaults (Python Language
-- Reference, 8.7, "Function definitions").
--     Definition, definitions        the `def`s of statements, in the order of the text;
--                                    own_definition and defining say what each part gives
use Rattle.std.specs.Prelude.{ℕ, List, [], ◌∷◌}
use Rattle.py_syntax.specs.Functions.{Function}
use Rattle.py_syntax.specs.Gathering.{Gathering, nothing, gather, gather_kind, gather_opt, gather_arms, gather_clauses, gather_cases}
use Rattle.py_syntax.specs.Tree.{Stmts, suite, OptSuite, Arms, Clauses, Cases, StmtKind, expr, assign, aug_assign, pass, break, continue, return, raise, assert, global, import, from, if', while, for, try, def, match}
use Rattle.py_compile_expr.specs.Expressions.{count}

-- a function with the number of its defaults
pub record Definition : Type 0 where
  pub function : Function
  pub defaults : ℕ

-- its function
abbrev pub function_of : Definition → Function
function_of d = d.function

-- the definition of a statement with this first line, where that is a `def`
abbrev pub own_definition : ℕ → StmtKind → List Definition
own_definition l (expr e) = []
own_definition l (assign ts e) = []
own_definition l (aug_assign t op e) = []
own_definition l pass = []
own_definition l break = []
own_definition l continue = []
own_definition l (return e) = []
own_definition l (raise e) = []
own_definition l (assert e w) = []
own_definition l (global xs) = []
own_definition l (import names) = []
own_definition l (from m names) = []
own_definition l (if' arms o) = []
own_definition l (while t s o) = []
own_definition l (for t e s o) = []
own_definition l (try s cs o fin) = []
own_definition l (def x params defaults comma (suite first last inline body)) =
    record {
      function = record { line = l; name = x; params = params; body = body };
      defaults = count defaults;
    } ∷ []
own_definition l (match e last cs) = []

-- no `def` stands in a function
abbrev pub defining : Gathering Definition
defining = record {
  of_kind = λ first last k. own_definition first k;
  of_arm = λ t s. [];
  of_clause = λ e x s. [];
  of_case = λ p g s. [];
  within = nothing;
}

-- those of statements in a row
abbrev pub definitions : Stmts → List Definition
definitions ss = gather defining ss

-- those of a statement with this first line
abbrev pub definitions_in : ℕ → StmtKind → List Definition
definitions_in first k = gather_kind defining (own_definition first k) k

-- those of the suite of an `else` or a `finally`, which may be missing
abbrev pub opt_definitions : OptSuite → List Definition
opt_definitions o = gather_opt defining o

-- those of the tests of an `if`
abbrev pub arms_definitions : Arms → List Definition
arms_definitions arms = gather_arms defining arms

-- those of the clauses of a `try`
abbrev pub clauses_definitions : Clauses → List Definition
clauses_definitions cs = gather_clauses defining cs

-- those of the cases of a `match`
abbrev pub cases_definitions : Cases → List Definition
cases_definitions cs = gather_cases defining cs
