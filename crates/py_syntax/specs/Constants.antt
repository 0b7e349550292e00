-- Tests of a `while` that are taken to hold always: `True`, and whole numbers other than 0, without
-- parentheses.
use Rattle.std.specs.Prelude.{Bool, false, not, pos}
use Rattle.std.specs.Ordering.{int_eq}
use Rattle.py_syntax.specs.Tree.{Expr, name, int, str, fstr, none, bool, tuple, list, dict, paren, not', and, or, unary, binary, compare, cond, call, index, slice, attr}

-- whether a test is one of these; `(True)`, which always holds too, is none
abbrev pub is_constant : Expr → Bool
is_constant (name x) = false
is_constant (int n) = not (int_eq n (pos 0))
is_constant (str ps) = false
is_constant (fstr fs) = false
is_constant none = false
is_constant (bool b) = b
is_constant (tuple es c) = false
is_constant (list es c) = false
is_constant (dict ps c) = false
is_constant (paren e) = false
is_constant (not' e) = false
is_constant (and a b) = false
is_constant (or a b) = false
is_constant (unary s e) = false
is_constant (binary op a b) = false
is_constant (compare a ls) = false
is_constant (cond b t o) = false
is_constant (call f es c) = false
is_constant (index f e) = false
is_constant (slice f low high) = false
is_constant (attr f x) = false
