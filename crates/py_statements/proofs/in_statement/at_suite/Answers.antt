use Rattle.std.proofs.Common.{◌∙◌, sym}
use Rattle.py_statements.specs.ViewSuiteOf.{boxed_suite_of}
use Rattle.py_statements.specs.ViewStates.{view_span, view_suites}
use Rattle.py_statements.proofs.View.Acts.{suite_turn}
use Rattle.py_statements.proofs.in_statement.at_suite.Goals as goal

pub returns : goal.returns
returns c =
    let a = c.args in
    suite_turn (boxed_suite_of a.suite_of) (view_span a.span) (view_suites a.suites) (view_suites c.in_ok-suites.suites) a.token.now c.begin_simple.result (sym c.is_a.ensures ∙ c.if-is_a.false) c.in_ok-suites.ensures c.begin_simple.ensures
