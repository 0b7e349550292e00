use Rattle.std.proofs.Common.{◌∙◌, Some, sym, ap}
use Rattle.py_syntax.specs.View.{plain_exprs}
use Rattle.py_statements.specs.declared.suite_of.SuiteOf.{SuiteOf}
use Rattle.py_statements.specs.Machine.{ColonWanted, at}
use Rattle.py_statements.specs.ViewSuiteOf.{view_suite_of}
use Rattle.py_statements.specs.ViewStates.{kind_at, last_at, view_span, view_suites}
use Rattle.py_statements.proofs.View.Acts.{default_more, default_closes, default_none}
use Rattle.py_statements.proofs.after_expression.after_default.Goals as goal

pub returns-then-is_a : goal.returns-then-is_a
returns-then-is_a c =
    let a = c.args in
    let s = a.signature in
    default_more s.name s.params.items (plain_exprs s.defaults.items) (view_span a.span) (view_span c.onward.result) (view_suites a.suites) (kind_at a.token.now) (last_at a.token.now) (sym c.is_a.ensures ∙ c.if-is_a.true) c.onward.ensures

pub returns-then-not-is_a : goal.returns-then-not-is_a
returns-then-not-is_a c =
    let a = c.args in
    let s = a.signature in
    default_none s.name s.params.items (plain_exprs s.defaults.items) (view_span a.span) (view_suites a.suites) (kind_at a.token.now) (last_at a.token.now) (sym c.is_a.ensures ∙ c.if-is_a.false) (sym c.is_a-2.ensures ∙ c.if-not-is_a.true)

pub returns : goal.returns
returns c =
    let a = c.args in
    let s = a.signature in
    let n = view_span c.onward-2.result in
    let b = view_suites a.suites in
    default_closes s.name s.params.items (plain_exprs s.defaults.items) (view_span a.span) n b (kind_at a.token.now) (last_at a.token.now) (sym c.is_a-2.ensures ∙ c.if-not-is_a.false) c.onward-2.ensures
    ∙ ap (λ (o : SuiteOf). Some (at (ColonWanted (view_suite_of o)) n b)) (sym c.in_ok-suite_of.ensures)
