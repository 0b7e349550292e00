use Rattle.std.proofs.Common.{arith, refl, true}
use Rattle.py_syntax.specs.Tree.{index}
use Rattle.py_syntax.specs.declared.expr.Expr.TheVariants as variant
use Rattle.py_parse_expr.specs.ExprViews.{view_measured}
use Rattle.py_parse_expr.proofs.View.ExprNodes.{boxed_makes, index_is}
use Rattle.py_parse_expr.proofs.expr_nodes.index.Goals as goal

pub returns : goal.returns
returns c = boxed_makes (index (view_measured c.args.of) (view_measured c.args.at)) (variant.Index c.args.of.expr c.args.at.expr) (c.over-height.result) (true) c.new.result c.new.ensures.expr c.new.ensures.height c.new.ensures.target (index_is c.args.of.expr c.args.at.expr) (let a = c.requires.of.height in let b = c.requires.at.height in omega (arith, c.higher.ensures, c.over-height.ensures)) (refl)
