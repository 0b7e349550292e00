use Rattle.std.proofs.Common.{◌∙◌, sym, ap}
use Rattle.py_syntax.specs.declared.expr.Expr.{Expr as Node}
use Rattle.py_syntax.specs.Tree.{expr}
use Rattle.py_syntax.specs.Normal.{is_place}
use Rattle.py_syntax.specs.View.{plain_expr}
use Rattle.py_statements.specs.ViewSuiteOf.{boxed_expr}
use Rattle.py_statements.specs.ViewStates.{kind_at, last_at, view_span, view_suites}
use Rattle.py_statements.proofs.View.Acts.{value_augments, value_misplaced, value_ends}
use Rattle.py_statements.proofs.View.Tails.{boxes, plain-Expr}
use Rattle.py_statements.proofs.after_expression.after_last.Goals as goal

pub returns-in_default : goal.returns-in_default
returns-in_default c =
    let a = c.args in
    value_ends (boxed_expr a.expr) (view_span a.span) (view_suites a.suites) (kind_at a.token.now) (last_at a.token.now) c.end_made.result c.requires c.in_default.ensures
    (c.end_made.ensures (expr (boxed_expr a.expr)) (boxes c.boxed.result _ _ (plain-Expr c.into_inner.result ∙ ap (λ (e : Node). expr (plain_expr e)) c.into_inner.ensures) c.boxed.ensures))

pub returns-then-not-is_place : goal.returns-then-not-is_place
returns-then-not-is_place c =
    let a = c.args in
    value_misplaced (boxed_expr a.expr) (view_span a.span) (view_suites a.suites) (kind_at a.token.now) (last_at a.token.now) c.in-Some.op c.requires c.in-Some.ensures (sym (c.is_place.ensures ∙ ap (λ (e : Node). is_place (plain_expr e)) c.deref.ensures) ∙ c.if-not-is_place.true)

pub returns : goal.returns
returns c =
    let a = c.args in
    value_augments (boxed_expr a.expr) (view_span a.span) (view_suites a.suites) (kind_at a.token.now) (last_at a.token.now) c.in-Some.op (view_span c.onward.result) c.requires c.in-Some.ensures (sym (c.is_place.ensures ∙ ap (λ (e : Node). is_place (plain_expr e)) c.deref.ensures) ∙ c.if-not-is_place.false) c.onward.ensures
