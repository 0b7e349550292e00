use Rattle.std.proofs.Common.{arith, refl, false}
use Rattle.py_syntax.specs.Tree.{unary}
use Rattle.py_syntax.specs.declared.expr.Expr.TheVariants as variant
use Rattle.py_parse_expr.specs.ExprViews.{view_measured}
use Rattle.py_parse_expr.proofs.View.ExprNodes.{boxed_makes, unary_is}
use Rattle.py_parse_expr.proofs.expr_nodes.unary.Goals as goal

pub returns : goal.returns
returns c = boxed_makes (unary c.args.sign (view_measured c.args.operand)) (variant.Unary c.args.sign c.args.operand.expr) (c.over-height.result) (false) c.new.result c.new.ensures.expr c.new.ensures.height c.new.ensures.target (unary_is c.args.sign c.args.operand.expr) (let a = c.requires.height in omega (arith, c.over-height.ensures)) (refl)
