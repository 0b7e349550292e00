use Rattle.std.proofs.Common.{refl, sym, arith, false}
use Rattle.py_parse_expr.proofs.View.ExprNodes.{boxed_makes}
use Rattle.py_syntax.specs.View.{plain_expr}
use Rattle.py_parse_expr.proofs.expr_nodes.Measured.low.Goals as goal

pub returns : goal.returns
returns c = boxed_makes (plain_expr c.args.expr) (c.args.expr) (1) (false) c.new.result c.new.ensures.expr c.new.ensures.height c.new.ensures.target (refl) (let h = c.requires.height in omega arith) (sym c.requires.target)
