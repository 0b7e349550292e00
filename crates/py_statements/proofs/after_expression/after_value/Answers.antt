use Rattle.std.proofs.Common.{◌∙◌, List, sym, ap}
use Rattle.py_syntax.specs.declared.expr.Expr.{Expr as Node}
use Rattle.py_syntax.specs.View.{plain_exprs}
use Rattle.py_statements.specs.ViewLists.{some_exprs}
use Rattle.py_statements.specs.ViewSuiteOf.{boxed_expr}
use Rattle.py_statements.specs.ViewStates.{kind_at, last_at, view_span, view_suites}
use Rattle.py_statements.proofs.View.Acts.{value_targets, value_assigns, value_alone}
use Rattle.py_statements.proofs.after_expression.after_value.Goals as goal

pub returns-then-is_a : goal.returns-then-is_a
returns-then-is_a c =
    let a = c.args in
    value_targets (plain_exprs a.targets.items) (boxed_expr a.expr) (view_span a.span) (view_suites a.suites) (kind_at a.token.now) (last_at a.token.now) c.after_target.result (sym c.is_a.ensures ∙ c.if-is_a.true) c.after_target.ensures

pub returns-then-has_exprs : goal.returns-then-has_exprs
returns-then-has_exprs c =
    let a = c.args in
    value_assigns (plain_exprs a.targets.items) (boxed_expr a.expr) (view_span a.span) (view_suites a.suites) (kind_at a.token.now) (last_at a.token.now) c.end_made.result (sym c.is_a.ensures ∙ c.if-is_a.false) (sym (c.has_exprs.ensures ∙ ap (λ (xs : List Node). some_exprs (plain_exprs xs)) c.deref.ensures.value) ∙ c.if-has_exprs.true)
    (c.end_made.ensures _ c.assigned.ensures)

pub returns-else-has_exprs : goal.returns-else-has_exprs
returns-else-has_exprs c =
    let a = c.args in
    value_alone (plain_exprs a.targets.items) (boxed_expr a.expr) (view_span a.span) (view_suites a.suites) (kind_at a.token.now) (last_at a.token.now) c.after_last.result (sym (c.has_exprs.ensures ∙ ap (λ (xs : List Node). some_exprs (plain_exprs xs)) c.deref.ensures.value) ∙ c.if-has_exprs.false) c.after_last.ensures
