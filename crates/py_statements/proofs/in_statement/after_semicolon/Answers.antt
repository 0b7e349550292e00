use Rattle.std.proofs.Common.{◌∙◌, refl, sym}
use Rattle.py_statements.specs.Open.{semicolon_end}
use Rattle.py_statements.specs.ViewSuiteOf.{boxed_kind}
use Rattle.py_statements.specs.ViewStates.{view_span, view_suites}
use Rattle.py_statements.proofs.View.Acts.{semicolon_turn}
use Rattle.py_statements.proofs.in_statement.after_semicolon.Goals as goal

pub returns : goal.returns
returns c =
    let a = c.args in
    semicolon_turn (boxed_kind a.kind) (view_span a.span) (view_suites a.suites) (view_suites c.in_ok-suites.suites) a.token.now semicolon_end c.begin_simple.result (sym c.is_a.ensures ∙ c.if-is_a.false) refl c.in_ok-suites.ensures c.begin_simple.ensures
