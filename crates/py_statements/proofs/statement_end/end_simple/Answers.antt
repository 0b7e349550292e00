use Rattle.std.proofs.Common.{◌∙◌, sym}
use Rattle.py_statements.specs.ViewSuiteOf.{boxed_kind}
use Rattle.py_statements.specs.ViewStates.{kind_at, last_at, view_span, view_suites, view_state}
use Rattle.py_statements.proofs.View.Acts.{simple_semicolon, simple_newline, simple_goes_on}
use Rattle.py_statements.proofs.statement_end.end_simple.Goals as goal

pub returns-then-is_a : goal.returns-then-is_a
returns-then-is_a c =
    let a = c.args in
    let t = a.token.now in
    simple_semicolon (boxed_kind a.kind) (view_span a.span) (view_suites a.suites) (kind_at t) (last_at t) (sym c.is_a.ensures ∙ c.if-is_a.true)

pub returns-then-is_a-2 : goal.returns-then-is_a-2
returns-then-is_a-2 c =
    let a = c.args in
    let t = a.token.now in
    simple_newline (boxed_kind a.kind) (view_span a.span) (view_suites a.suites) (kind_at t) (last_at t) (view_state c.in_ok-end_line.field-0) (sym c.is_a-2.ensures ∙ c.if-is_a-2.true) c.in_ok-end_line.ensures

pub returns : goal.returns
returns c =
    let a = c.args in
    let t = a.token.now in
    simple_goes_on (boxed_kind a.kind) (view_span a.span) (view_suites a.suites) (kind_at t) (last_at t) (sym c.is_a.ensures ∙ c.if-is_a.false) (sym c.is_a-2.ensures ∙ c.if-is_a-2.false)
