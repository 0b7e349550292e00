-- Bounds of slices, as the code holds them.
use Rattle.std.specs.Prelude.{Option, Box}
use Rattle.std.specs.Global.{Global}
use Rattle.std.specs.Option.{option_map}
use Rattle.py_syntax.specs.declared.expr.Expr.{Expr as Node}
use Rattle.py_syntax.specs.Tree.{OptExpr}
use Rattle.py_syntax.specs.View.{plain_expr, opt_of}

-- the plain view of a bound, which may be missing
abbrev pub plain_bound : Option (Box Node Global) → OptExpr
plain_bound o = opt_of (option_map (λ b. plain_expr b.value) o)
