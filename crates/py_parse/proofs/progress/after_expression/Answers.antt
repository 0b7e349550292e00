use Rattle.py_syntax.specs.View.{plain_expr}
use Rattle.py_statements.specs.ViewStates.{view_suites, view_span, view_continuation}
use Rattle.py_parse.proofs.View.Answering.{expression_turns}
use Rattle.py_parse.proofs.progress.after_expression.Goals as goal

pub moved-requires-clause-turns : goal.moved-requires-clause-turns
moved-requires-clause-turns c =
    let t = c.index-tokens-read-2.result in
    expression_turns c.args.tokens.now c.args.place c.args.read.next t c.index-tokens-read.result (view_continuation c.args.purpose) (plain_expr c.args.read.expr.value) (view_span c.args.span) (view_span c.onward-span.result) (view_suites c.args.suites) c.in_ok-state.state c.index-tokens-read-2.is c.requires c.onward-span.ensures c.in_ok-state.ensures
