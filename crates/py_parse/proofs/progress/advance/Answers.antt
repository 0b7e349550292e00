use Rattle.py_statements.specs.ViewStates.{view_state}
use Rattle.py_parse.proofs.View.Answering.{header_named, reads_there, matches_there, next_turns, stuck_turns}
use Rattle.py_parse.proofs.progress.advance.Goals as goal

pub moved-requires-clause-turns : goal.moved-requires-clause-turns
moved-requires-clause-turns c = next_turns c.args.tokens.now c.args.place c.index-tokens-place.result (view_state c.args.state) c.is_header-header.result c.in_ok-next.field-0 c.in-Next.next c.requires.inside c.index-tokens-place.is c.is_header-header.ensures c.requires.stands c.in_ok-next.ensures c.in-Next.is

pub moved-requires-in-Stuck-clause-turns : goal.moved-requires-in-Stuck-clause-turns
moved-requires-in-Stuck-clause-turns c = stuck_turns c.args.tokens.now c.args.place c.index-tokens-place.result (view_state c.args.state) c.is_header-header.result c.in_ok-next.field-0 c.requires.inside c.index-tokens-place.is c.is_header-header.ensures c.requires.stands c.in_ok-next.ensures c.in-Stuck.is

pub step-requires : goal.step-requires
step-requires c = header_named c.args.tokens.now c.args.place c.index-tokens-place.result c.is_header-header.result c.requires.inside c.index-tokens-place.is c.is_header-header.ensures

pub expression-requires-clause-begins : goal.expression-requires-clause-begins
expression-requires-clause-begins c = reads_there c.args.tokens.now c.args.place c.index-tokens-place.result (view_state c.args.state) c.is_header-header.result c.in_ok-next.field-0 c.in-Reads.purpose c.in-Reads.span c.in-Reads.suites c.requires.inside c.index-tokens-place.is c.is_header-header.ensures c.requires.stands c.in_ok-next.ensures c.in-Reads.is

pub pattern-requires-clause-begins : goal.pattern-requires-clause-begins
pattern-requires-clause-begins c = matches_there c.args.tokens.now c.args.place c.index-tokens-place.result (view_state c.args.state) c.is_header-header.result c.in_ok-next.field-0 c.in-Matches.partial_match c.in-Matches.span c.in-Matches.suites c.requires.inside c.index-tokens-place.is c.is_header-header.ensures c.requires.stands c.in_ok-next.ensures c.in-Matches.is
