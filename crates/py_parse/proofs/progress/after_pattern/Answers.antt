use Rattle.std.proofs.Common.{subst, option_map, ◌≡◌}
use Rattle.py_syntax.specs.declared.pattern.Pattern.{Pattern}
use Rattle.py_syntax.specs.View.{plain_expr, plain_cases, plain_pattern}
use Rattle.py_statements.specs.Machine.{resume_pattern}
use Rattle.py_statements.specs.ViewStates.{kind_at, last_at, view_suites, view_span, view_state}
use Rattle.py_parse.proofs.View.Answering.{pattern_turns}
use Rattle.py_parse.proofs.progress.after_pattern.Goals as goal

pub moved-requires-clause-turns : goal.moved-requires-clause-turns
moved-requires-clause-turns c =
    let t = c.index-tokens-read-2.result in
    let of = c.args.partial_match.value in
    let made = subst (λ (p : Pattern). resume_pattern (plain_expr of.subject) of.header_last (plain_cases of.cases.items) (plain_pattern p) (view_span c.onward-span.result) (view_suites c.args.suites) (kind_at t) (last_at t) ≡ option_map view_state c.in_ok-state.state) c.in-Ok.ensures.ok c.in_ok-state.ensures in
    pattern_turns c.args.tokens.now c.args.place c.args.read.next t c.index-tokens-read.result (plain_expr of.subject) of.header_last (plain_cases of.cases.items) (plain_pattern c.args.read.pattern) (view_span c.args.span) (view_span c.onward-span.result) (view_suites c.args.suites) c.in_ok-state.state c.index-tokens-read-2.is c.requires c.onward-span.ensures made
