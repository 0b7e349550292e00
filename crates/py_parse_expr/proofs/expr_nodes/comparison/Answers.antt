use Rattle.std.proofs.Common.{arith, refl, false}
use Rattle.py_syntax.specs.Tree.{compare}
use Rattle.py_syntax.specs.View.{plain_expr}
use Rattle.py_syntax.specs.declared.expr.Expr.TheVariants as variant
use Rattle.py_parse_expr.specs.ExprViews.{view_links}
use Rattle.py_parse_expr.proofs.View.ExprNodes.{boxed_makes, compare_is}
use Rattle.py_parse_expr.proofs.expr_nodes.comparison.Goals as goal

pub returns : goal.returns
returns c = boxed_makes (compare (plain_expr c.args.chain.first.value) (view_links c.args.chain)) (variant.Compare c.args.chain.first c.args.chain.links) (c.over-height.result) (false) c.new.result c.new.ensures.expr c.new.ensures.height c.new.ensures.target (compare_is c.args.chain.first c.args.chain.links) (omega (arith, c.requires, c.over-height.ensures)) (refl)
