use Rattle.std.proofs.Common.{sym, subst}
use Rattle.py_token.specs.View.{view_tokens}
use Rattle.py_syntax.specs.View.{plain_expr}
use Rattle.py_parse.specs.Refusal.{IsUnexpected, HasDeepExpressions}
use Rattle.py_parse_expr.specs.ExprReads.{goal_of}
use Rattle.py_statements.specs.ViewStates.{view_suites, view_span, view_continuation}
use Rattle.py_parse.proofs.View.Answering.{after_expression, expression_unexpected, expression_too_high}
use Rattle.py_parse.proofs.progress.expression.Goals as goal

pub after_expression-requires : goal.after_expression-requires
after_expression-requires c = after_expression c.args.tokens.now c.args.place c.in-Ok.read.next (goal_of c.part_of.result) (view_continuation c.args.purpose) (view_span c.args.span) (view_suites c.args.suites) (plain_expr c.in-Ok.read.expr.value) c.requires.inside c.part_of.ensures c.requires.begins c.in-Ok.ensures.follows

pub unexpected-requires-clause-is : goal.unexpected-requires-clause-is
unexpected-requires-clause-is c = subst (IsUnexpected (view_tokens c.args.tokens.now)) (sym c.in-Err-Unexpected.place-is) (expression_unexpected c.args.tokens.now c.args.place c.in-Err-Unexpected.place c.part_of.result c.in-Err-Unexpected.field-0 (view_continuation c.args.purpose) (view_span c.args.span) (view_suites c.args.suites) c.requires.inside c.part_of.ensures c.requires.begins c.in-Err-Unexpected.ensures.follows c.in-Err-Unexpected.field-0-is)

pub too_high-requires-clause-is : goal.too_high-requires-clause-is
too_high-requires-clause-is c = subst (HasDeepExpressions (view_tokens c.args.tokens.now)) (sym c.in-Err-TooDeep.place-is) (expression_too_high c.args.tokens.now c.args.place c.in-Err-TooDeep.place c.part_of.result c.in-Err-TooDeep.field-0 (view_continuation c.args.purpose) (view_span c.args.span) (view_suites c.args.suites) c.requires.inside c.part_of.ensures c.requires.begins c.in-Err-TooDeep.ensures.follows c.in-Err-TooDeep.field-0-is)
