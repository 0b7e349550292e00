-- What is called: a method by the name after a dot, or else the value of an expression (Python
-- Language Reference, 6.3.4, "Calls").
use Rattle.std.specs.Prelude.{ℕ, List, [], ◌++◌, Option}
use Rattle.py_syntax.specs.Tree.{Expr, name, int, str, fstr, none, bool, tuple, list, dict, paren, not', and, or, unary, binary, compare, cond, call, index, slice, attr}
use Rattle.py_compile_expr.specs.Cells.{method, Guard, Cell, put}
use Rattle.py_compile_expr.specs.Expressions.{expr_code}

-- what is called, from a place on, with the handler that holds there
abbrev pub callee_code : Option Guard → ℕ → Expr → List Cell
callee_code g p (name x) = expr_code g p (name x)
callee_code g p (int n) = expr_code g p (int n)
callee_code g p (str ps) = expr_code g p (str ps)
callee_code g p (fstr fs) = expr_code g p (fstr fs)
callee_code g p none = expr_code g p none
callee_code g p (bool b) = expr_code g p (bool b)
callee_code g p (tuple es c) = expr_code g p (tuple es c)
callee_code g p (list es c) = expr_code g p (list es c)
callee_code g p (dict ps c) = expr_code g p (dict ps c)
callee_code g p (paren e) = expr_code g p (paren e)
callee_code g p (not' e) = expr_code g p (not' e)
callee_code g p (and a b) = expr_code g p (and a b)
callee_code g p (or a b) = expr_code g p (or a b)
callee_code g p (unary s e) = expr_code g p (unary s e)
callee_code g p (binary op a b) = expr_code g p (binary op a b)
callee_code g p (compare a ls) = expr_code g p (compare a ls)
callee_code g p (cond b t o) = expr_code g p (cond b t o)
callee_code g p (call f es c) = expr_code g p (call f es c)
callee_code g p (index of at) = expr_code g p (index of at)
callee_code g p (slice of from to) = expr_code g p (slice of from to)
callee_code g p (attr e x) = expr_code g p e ++ put g (method x) []
