-- What holds of the code of every expression, target and pattern.
use Rattle.std.specs.Prelude.{◌≡◌, ℕ, List, length, Option}
use Rattle.py_syntax.specs.Tree.{Text, Expr, Exprs, Pattern}
use Rattle.py_compile_expr.specs.Cells.{Guard}
use Rattle.py_compile_expr.specs.Expressions.{expr_size, expr_code, each_size, each_code}
use Rattle.py_compile_expr.specs.Patterns.{Site, pattern_size, pattern_code, names_size, names_code}
use Rattle.py_compile_expr.specs.Targets.{target_size, target_code, all_size, all_code}

-- Code is as long as its size says, wherever it stands. So each jump leads where it is to lead.
pub record SizesHold : Type 0 where
  pub expr : (g : Option Guard) (p : ℕ) (e : Expr) → length (expr_code g p e) ≡ expr_size e
  pub each : (g : Option Guard) (p : ℕ) (es : Exprs) → length (each_code g p es) ≡ each_size es
  pub target : (g : Option Guard) (p : ℕ) (t : Expr) → length (target_code g p t) ≡ target_size t
  pub all : (g : Option Guard) (p : ℕ) (ts : Exprs) → length (all_code g p ts) ≡ all_size ts
  pub pattern : (s : Site) (p : ℕ) (q : Pattern) → length (pattern_code s p q) ≡ pattern_size q
  pub names : (g : Option Guard) (xs : List Text) → length (names_code g xs) ≡ names_size xs
