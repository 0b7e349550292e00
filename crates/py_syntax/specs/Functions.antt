-- The functions of a text, and the docstrings of bodies (Python Language Reference, 8.7, and its
-- Glossary, "docstring").
--     Function, functions            the functions of statements, in the order of the text;
--                                    own_function and defining say what each part gives
--     is_docstring                   a statement that does nothing where it leads a body
--     without_docstring              a body without it
use Rattle.std.specs.Prelude.{ℕ, Bool, true, false, if◌then◌else◌, List, [], ◌∷◌}
use Rattle.py_syntax.specs.Gathering.{Gathering, nothing, gather, gather_kind, gather_opt, gather_arms, gather_clauses, gather_cases}
use Rattle.py_syntax.specs.Tree.{Text, Expr, name, int, str, fstr, none, bool, tuple, list, dict, paren, not', and, or, unary, binary, compare, cond, call, index, slice, attr}
use Rattle.py_syntax.specs.Tree.{Stmts, no_stmts, stmt, suite, OptSuite, Arms, Clauses, Cases, StmtKind, expr, assign, aug_assign, pass, break, continue, return, raise, assert, global, import, from, if', while, for, try, def, match}

-- a function, or the body of a module as one without parameters
pub record Function : Type 0 where
  pub line : ℕ
  pub name : Text
  pub params : List Text
  pub body : Stmts

-- the function of a statement with this first line, where that is a `def`
abbrev pub own_function : ℕ → StmtKind → List Function
own_function l (expr e) = []
own_function l (assign ts e) = []
own_function l (aug_assign t op e) = []
own_function l pass = []
own_function l break = []
own_function l continue = []
own_function l (return e) = []
own_function l (raise e) = []
own_function l (assert e w) = []
own_function l (global xs) = []
own_function l (import names) = []
own_function l (from m names) = []
own_function l (if' arms o) = []
own_function l (while t s o) = []
own_function l (for t e s o) = []
own_function l (try s cs o fin) = []
own_function l (def x ps ds c (suite first last inline b)) =
    record { line = l; name = x; params = ps; body = b } ∷ []
own_function l (match e last cs) = []

-- no `def` stands in a function
abbrev pub defining : Gathering Function
defining = record {
  of_kind = λ first last k. own_function first k;
  of_arm = λ t s. [];
  of_clause = λ e x s. [];
  of_case = λ p g s. [];
  within = nothing;
}

-- the `def`s of statements in a row, in the order of the text
unfoldable pub functions : Stmts → List Function
functions ss = gather defining ss

-- those of a statement with this first line
unfoldable abbrev pub functions_in : ℕ → StmtKind → List Function
unfolding functions
functions_in first k = gather_kind defining (own_function first k) k

-- those of the suite of an `else` or a `finally`, which may be missing
unfoldable abbrev pub opt_functions : OptSuite → List Function
unfolding functions
opt_functions o = gather_opt defining o

-- those of the tests of an `if`
unfoldable abbrev pub arms_functions : Arms → List Function
unfolding functions
arms_functions arms = gather_arms defining arms

-- those of the clauses of a `try`
unfoldable abbrev pub clauses_functions : Clauses → List Function
unfolding functions
clauses_functions cs = gather_clauses defining cs

-- those of the cases of a `match`
unfoldable abbrev pub cases_functions : Cases → List Function
unfolding functions
cases_functions cs = gather_cases defining cs

-- neighbouring plain strings, without parentheses
abbrev pub is_string : Expr → Bool
is_string (name x) = false
is_string (int n) = false
is_string (str ps) = true
is_string (fstr fs) = false
is_string none = false
is_string (bool b) = false
is_string (tuple es c) = false
is_string (list es c) = false
is_string (dict ps c) = false
is_string (paren e) = false
is_string (not' e) = false
is_string (and a b) = false
is_string (or a b) = false
is_string (unary s e) = false
is_string (binary op a b) = false
is_string (compare a ls) = false
is_string (cond b t o) = false
is_string (call f es c) = false
is_string (index f e) = false
is_string (slice f low high) = false
is_string (attr f x) = false

-- whether a statement is a docstring where it leads a body
abbrev pub is_docstring : StmtKind → Bool
is_docstring (expr e) = is_string e
is_docstring (assign ts e) = false
is_docstring (aug_assign t op e) = false
is_docstring pass = false
is_docstring break = false
is_docstring continue = false
is_docstring (return e) = false
is_docstring (raise e) = false
is_docstring (assert e w) = false
is_docstring (global xs) = false
is_docstring (import names) = false
is_docstring (from m names) = false
is_docstring (if' arms o) = false
is_docstring (while t b o) = false
is_docstring (for t e b o) = false
is_docstring (try b cs o f) = false
is_docstring (def x ps ds c b) = false
is_docstring (match e last cs) = false

-- the body of a module or a function without the docstring that may lead it
abbrev pub without_docstring : Stmts → Stmts
without_docstring no_stmts = no_stmts
without_docstring (stmt first last k e rest) =
    if is_docstring k then rest else stmt first last k e rest
