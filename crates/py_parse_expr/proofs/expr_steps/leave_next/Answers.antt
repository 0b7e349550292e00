use Rattle.std.proofs.Common.{sym, ap, ◌∙◌}
use Rattle.py_grammar.specs.Machine.{Left}
use Rattle.py_parse_expr.specs.ExprViews.{view_measured, view_row, view_class}
use Rattle.py_parse_expr.proofs.View.ExprSteps.{leave_comma, leave_other, some_more}
use Rattle.py_parse_expr.proofs.expr_steps.leave_next.Goals as goal

pub returns-then-is_comma : goal.returns-then-is_comma
returns-then-is_comma c = (
  (λ k. leave_comma (view_row c.args.items) (view_row c.in_ok-items.items) (view_measured c.args.measured) (view_class c.args.class.now) (sym c.is_comma.ensures ∙ c.if-is_comma.true) c.requires.items.some c.in_ok-items.ensures.items (sym c.requires.measured.target ∙ c.if-not-measured.false)),
  record { are = c.in_ok-items.ensures.are; some = some_more (view_row c.args.items) (view_row c.in_ok-items.items) (view_measured c.args.measured) c.in_ok-items.ensures.items },
)

pub returns-in_ok-tuple : goal.returns-in_ok-tuple
returns-in_ok-tuple c = (
  (λ k. leave_other (view_row c.args.items) (view_row c.in_ok-items.items) (view_measured c.args.measured) (view_class c.args.class.now) (sym c.is_comma.ensures ∙ c.if-is_comma.false) c.requires.items.some c.in_ok-items.ensures.items (sym c.requires.measured.target ∙ c.if-not-measured.false) ∙ ap Left (sym c.in_ok-tuple.ensures.is)),
  c.in_ok-tuple.ensures.valid,
)
