use Rattle.std.proofs.Common.{sym, subst}
use Rattle.py_token.specs.View.{view_tokens}
use Rattle.py_syntax.specs.View.{plain_expr, plain_cases, plain_pattern}
use Rattle.py_parse.specs.Refusal.{IsUnexpected, HasDeepExpressions}
use Rattle.py_statements.specs.ViewStates.{view_suites, view_span}
use Rattle.py_parse.proofs.View.Answering.{after_pattern, pattern_unexpected, pattern_too_high}
use Rattle.py_parse.proofs.progress.pattern.Goals as goal

pub after_pattern-requires : goal.after_pattern-requires
after_pattern-requires c =
    let of = c.args.partial_match.value in
    after_pattern c.args.tokens.now c.args.place c.in-Ok.read.next (plain_expr of.subject) of.header_last (plain_cases of.cases.items) (view_span c.args.span) (view_suites c.args.suites) (plain_pattern c.in-Ok.read.pattern) c.requires.inside c.requires.begins c.in-Ok.ensures.follows

pub unexpected-requires-clause-is : goal.unexpected-requires-clause-is
unexpected-requires-clause-is c =
    let of = c.args.partial_match.value in
    subst (IsUnexpected (view_tokens c.args.tokens.now)) (sym c.in-Err-Unexpected.place-is) (pattern_unexpected c.args.tokens.now c.args.place c.in-Err-Unexpected.place c.in-Err-Unexpected.field-0 (plain_expr of.subject) of.header_last (plain_cases of.cases.items) (view_span c.args.span) (view_suites c.args.suites) c.requires.inside c.requires.begins c.in-Err-Unexpected.ensures.follows c.in-Err-Unexpected.field-0-is)

pub too_high-requires-clause-is : goal.too_high-requires-clause-is
too_high-requires-clause-is c =
    let of = c.args.partial_match.value in
    subst (HasDeepExpressions (view_tokens c.args.tokens.now)) (sym c.in-Err-TooDeep.place-is) (pattern_too_high c.args.tokens.now c.args.place c.in-Err-TooDeep.place c.in-Err-TooDeep.field-0 (plain_expr of.subject) of.header_last (plain_cases of.cases.items) (view_span c.args.span) (view_suites c.args.suites) c.requires.inside c.requires.begins c.in-Err-TooDeep.ensures.follows c.in-Err-TooDeep.field-0-is)
