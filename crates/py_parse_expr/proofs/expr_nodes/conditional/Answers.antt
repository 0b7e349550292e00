use Rattle.std.proofs.Common.{arith, refl, false}
use Rattle.py_syntax.specs.Tree.{cond}
use Rattle.py_syntax.specs.declared.expr.Expr.TheVariants as variant
use Rattle.py_parse_expr.specs.ExprViews.{view_measured}
use Rattle.py_parse_expr.proofs.View.ExprNodes.{boxed_makes, cond_is}
use Rattle.py_parse_expr.proofs.expr_nodes.conditional.Goals as goal

pub returns : goal.returns
returns c = boxed_makes (cond (view_measured c.args.body) (view_measured c.args.test) (view_measured c.args.orelse)) (variant.Cond c.args.body.expr c.args.test.expr c.args.orelse.expr) (c.over-height.result) (false) c.new.result c.new.ensures.expr c.new.ensures.height c.new.ensures.target (cond_is c.args.body.expr c.args.test.expr c.args.orelse.expr) (let a = c.requires.body.height in let b = c.requires.test.height in let d = c.requires.orelse.height in omega (arith, c.higher.ensures, c.higher-2.ensures, c.over-height.ensures)) (refl)
