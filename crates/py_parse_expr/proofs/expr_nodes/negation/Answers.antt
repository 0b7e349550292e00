use Rattle.std.proofs.Common.{arith, refl, false}
use Rattle.py_syntax.specs.Tree.{not'}
use Rattle.py_syntax.specs.declared.expr.Expr.TheVariants as variant
use Rattle.py_parse_expr.specs.ExprViews.{view_measured}
use Rattle.py_parse_expr.proofs.View.ExprNodes.{boxed_makes, not_is}
use Rattle.py_parse_expr.proofs.expr_nodes.negation.Goals as goal

pub returns : goal.returns
returns c = boxed_makes (not' (view_measured c.args.operand)) (variant.Not c.args.operand.expr) (c.over.result) (false) c.new.result c.new.ensures.expr c.new.ensures.height c.new.ensures.target (not_is c.args.operand.expr) (let a = c.requires.height in omega (arith, c.over.ensures)) (refl)
