use Rattle.std.proofs.Common.{arith, refl, false, ap, ◌∙◌}
use Rattle.py_syntax.specs.Tree.{slice}
use Rattle.py_syntax.specs.declared.expr.Expr.TheVariants as variant
use Rattle.py_parse_expr.specs.ExprViews.{view_measured, view_bound}
use Rattle.py_parse_expr.proofs.View.ExprNodes.{boxed_makes, slice_is, bound_is}
use Rattle.py_syntax.specs.Tree.{OptExpr}
use Rattle.py_parse_expr.proofs.expr_nodes.slice.Goals as goal

pub returns : goal.returns
returns c = boxed_makes (slice (view_measured c.args.of) (view_bound c.args.from) (view_bound c.args.to)) (variant.Slice c.args.of.expr c.boxed.result c.boxed-2.result) (c.over-height.result) (false) c.new.result c.new.ensures.expr c.new.ensures.height c.new.ensures.target (slice_is c.args.of.expr c.boxed.result c.boxed-2.result ∙ ap (λ (b : OptExpr). slice (view_measured c.args.of) b (bound_is c.boxed-2.result)) c.boxed.ensures ∙ ap (slice (view_measured c.args.of) (view_bound c.args.from)) c.boxed-2.ensures) (let a = c.requires.of.height in omega (arith, c.bound_height.ensures, c.bound_height-2.ensures, c.higher.ensures, c.higher-2.ensures, c.over-height.ensures)) (refl)
