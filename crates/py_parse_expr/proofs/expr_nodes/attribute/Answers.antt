use Rattle.std.proofs.Common.{arith, refl, false}
use Rattle.py_syntax.specs.Tree.{attr}
use Rattle.py_syntax.specs.declared.expr.Expr.TheVariants as variant
use Rattle.py_parse_expr.specs.ExprViews.{view_measured}
use Rattle.py_parse_expr.proofs.View.ExprNodes.{boxed_makes, attr_is}
use Rattle.py_parse_expr.proofs.expr_nodes.attribute.Goals as goal

pub returns : goal.returns
returns c = boxed_makes (attr (view_measured c.args.of) c.args.name) (variant.Attr c.args.of.expr c.args.name) (c.over-height.result) (false) c.new.result c.new.ensures.expr c.new.ensures.height c.new.ensures.target (attr_is c.args.of.expr c.args.name) (let a = c.requires.height in omega (arith, c.over-height.ensures)) (refl)
