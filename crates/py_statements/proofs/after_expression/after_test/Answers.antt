use Rattle.std.proofs.Common.{◌∙◌, None, sym}
use Rattle.py_syntax.specs.Tree.{assert}
use Rattle.py_statements.specs.ViewSuiteOf.{boxed_expr}
use Rattle.py_statements.specs.ViewStates.{kind_at, last_at, view_span, view_suites}
use Rattle.py_statements.proofs.View.Acts.{test_ends}
use Rattle.py_statements.proofs.after_expression.after_test.Goals as goal

pub returns : goal.returns
returns c =
    let a = c.args in
    let t = a.token.now in
    test_ends (boxed_expr a.test) (view_span a.span) (view_suites a.suites) (kind_at t) (last_at t) c.end_made.result (sym c.is_a.ensures ∙ c.if-is_a.false) (c.end_made.ensures (assert (boxed_expr a.test) None) c.asserted.ensures)
