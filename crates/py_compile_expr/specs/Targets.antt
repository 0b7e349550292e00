-- The code of targets, which take the value on top (Python Language Reference, 7.2, "Assignment
-- statements").
--     no_target_code                  what is no target
--     target_size, target_code        a target; targets_size and targets_code of several in a row
--     unpack_code                     the items of a value, to targets in a row
--     all_size, all_code              one value to each of several targets
use Rattle.std.specs.Prelude.{ℕ, ◌+◌, List, [], ◌++◌, Option}
use Rattle.py_syntax.specs.Tree.{Expr, name, int, str, fstr, none, bool, tuple, list, dict, paren, not', and, or, unary, binary, compare, cond, call, index, slice, attr, Exprs, no_exprs, exprs}
use Rattle.py_code.specs.declared.instr.Instr.TheVariants.{Pop, Copy, Index, StoreIndex, Unpack}
use Rattle.py_code.specs.declared.unit.Constant.TheVariants.{None as NoneConstant}
use Rattle.py_compile_expr.specs.Cells.{constant, store, plain, Guard, Cell, put}
use Rattle.py_compile_expr.specs.Expressions.{count, expr_size, expr_code}

-- what is no target raises as None has no items
abbrev pub no_target_code : Option Guard → List Cell
no_target_code g =
    put g (constant NoneConstant)
    (put g (constant NoneConstant)
    (put g (plain Index) (put g (plain Pop) (put g (plain Pop) []))))

abbrev mutual
  -- how many instructions a target takes
  pub target_size : Expr → ℕ
  target_size (name x) = 1
  target_size (int n) = 5
  target_size (str ps) = 5
  target_size (fstr fs) = 5
  target_size none = 5
  target_size (bool b) = 5
  target_size (tuple ts comma) = 1 + targets_size ts
  target_size (list ts comma) = 1 + targets_size ts
  target_size (dict ps comma) = 5
  target_size (paren t) = target_size t
  target_size (not' e) = 5
  target_size (and a b) = 5
  target_size (or a b) = 5
  target_size (unary s e) = 5
  target_size (binary op a b) = 5
  target_size (compare a ls) = 5
  target_size (cond b t o) = 5
  target_size (call f es comma) = 5
  target_size (index of at) = expr_size of + expr_size at + 1
  target_size (slice of low high) = 5
  target_size (attr of x) = 5

  -- targets in a row
  pub targets_size : Exprs → ℕ
  targets_size no_exprs = 0
  targets_size (exprs t ts) = target_size t + targets_size ts

abbrev mutual
  -- a target, from a place on
  pub target_code : Option Guard → ℕ → Expr → List Cell
  target_code g p (name x) = put g (store x) []
  target_code g p (int n) = no_target_code g
  target_code g p (str ps) = no_target_code g
  target_code g p (fstr fs) = no_target_code g
  target_code g p none = no_target_code g
  target_code g p (bool b) = no_target_code g
  target_code g p (tuple ts comma) = put g (plain (Unpack (count ts))) (targets_code g (p + 1) ts)
  target_code g p (list ts comma) = put g (plain (Unpack (count ts))) (targets_code g (p + 1) ts)
  target_code g p (dict ps comma) = no_target_code g
  target_code g p (paren t) = target_code g p t
  target_code g p (not' e) = no_target_code g
  target_code g p (and a b) = no_target_code g
  target_code g p (or a b) = no_target_code g
  target_code g p (unary s e) = no_target_code g
  target_code g p (binary op a b) = no_target_code g
  target_code g p (compare a ls) = no_target_code g
  target_code g p (cond b t o) = no_target_code g
  target_code g p (call f es comma) = no_target_code g
  target_code g p (index of at) =
      expr_code g p of ++ (expr_code g (p + expr_size of) at ++ put g (plain StoreIndex) [])
  target_code g p (slice of low high) = no_target_code g
  target_code g p (attr of x) = no_target_code g

  -- the first value is on top
  pub targets_code : Option Guard → ℕ → Exprs → List Cell
  targets_code g p no_exprs = []
  targets_code g p (exprs t ts) = target_code g p t ++ targets_code g (p + target_size t) ts

-- the items of a value to targets in a row
abbrev pub unpack_code : Option Guard → ℕ → Exprs → List Cell
unpack_code g p ts = put g (plain (Unpack (count ts))) (targets_code g (p + 1) ts)

-- one value to each of these targets, which is gone then
abbrev pub all_size : Exprs → ℕ
all_size no_exprs = 1
all_size (exprs t ts) = 1 + target_size t + all_size ts

-- their code, from a place on
abbrev pub all_code : Option Guard → ℕ → Exprs → List Cell
all_code g p no_exprs = put g (plain Pop) []
all_code g p (exprs t ts) =
    put g (plain (Copy 0)) (target_code g (p + 1) t ++ all_code g (p + 1 + target_size t) ts)
