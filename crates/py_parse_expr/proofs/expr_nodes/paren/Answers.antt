use Rattle.std.proofs.Common.{arith}
use Rattle.py_syntax.specs.Tree.{paren}
use Rattle.py_syntax.specs.declared.expr.Expr.TheVariants as variant
use Rattle.py_parse_expr.specs.ExprViews.{view_measured}
use Rattle.py_parse_expr.proofs.View.ExprNodes.{boxed_makes, paren_is}
use Rattle.py_parse_expr.proofs.expr_nodes.paren.Goals as goal

pub returns : goal.returns
returns c = boxed_makes (paren (view_measured c.args.inner)) (variant.Paren c.args.inner.expr) (c.over.result) (c.args.inner.target) c.new.result c.new.ensures.expr c.new.ensures.height c.new.ensures.target (paren_is c.args.inner.expr) (let a = c.requires.height in omega (arith, c.over.ensures)) (c.requires.target)
