use Rattle.std.proofs.lemmas.Grind.{common_steps}
use Rattle.std.proofs.Common.{sym, ◌∙◌, arith}
use Rattle.py_parse_expr.specs.ExprViews.{view_measured, view_row, view_opener, view_class}
use Rattle.py_parse_expr.proofs.View.ExprFrames.{give_comma, give_unclosed}
use Rattle.py_parse_expr.proofs.expr_frames.in_items.Goals as goal

pub returns-then-is_comma : goal.returns-then-is_comma
returns-then-is_comma c = λ k. (
  give_comma (view_measured c.args.measured) (view_opener c.args.opener) (view_row c.args.items) (view_row c.in_ok-items.items) k (view_class c.args.class.now) (sym c.is_comma.ensures ∙ c.if-is_comma.true) c.in_ok-items.ensures.items,
  (c.requires.opener, c.in_ok-items.ensures.are),
)

pub returns-then-not-closes : goal.returns-then-not-closes
returns-then-not-closes c = λ k. give_unclosed (view_measured c.args.measured) (view_opener c.args.opener) (view_row c.args.items) k (view_class c.args.class.now) (sym c.is_comma.ensures ∙ c.if-is_comma.false) (sym c.closes.ensures ∙ c.if-not-closes.true)

pub returns : goal.returns
returns c = grind (arith, common_steps)
