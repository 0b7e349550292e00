use Rattle.std.proofs.lemmas.Grind.{common_steps}
use Rattle.std.proofs.Common.{Ok, Err, arith}
use Rattle.py_grammar.specs.declared.error.ReadError.TheVariants as error
use Rattle.py_grammar.proofs.View.Places.{kinds_of_all}
use Rattle.py_parse_pattern.proofs.View.Tokens.{turn_stuck, turn_deep, turn_left, turn_next, over_there, reads}
use Rattle.py_parse_pattern.proofs.patterns.read_patterns.Goals as goal

pub returns-in-Stuck-clause-follows : goal.returns-in-Stuck-clause-follows
returns-in-Stuck-clause-follows c = turn_stuck c.args.tokens.now c.args.at c.tokens.place c.tokens.reader c.index-tokens-place.result c.in_ok-next.field-0 c.tokens.invariant c.tokens-test.true c.in_ok-next.ensures c.in-Stuck.is

pub returns-in-Stuck-clause-is_read : goal.returns-in-Stuck-clause-is_read
returns-in-Stuck-clause-is_read c = reads (kinds_of_all c.args.tokens.now) c.args.at (Err (error.Unexpected c.tokens.place)) (turn_stuck c.args.tokens.now c.args.at c.tokens.place c.tokens.reader c.index-tokens-place.result c.in_ok-next.field-0 c.tokens.invariant c.tokens-test.true c.in_ok-next.ensures c.in-Stuck.is)

pub returns-in-Deep-clause-follows : goal.returns-in-Deep-clause-follows
returns-in-Deep-clause-follows c = turn_deep c.args.tokens.now c.args.at c.tokens.place c.tokens.reader c.index-tokens-place.result c.in_ok-next.field-0 c.tokens.invariant c.tokens-test.true c.in_ok-next.ensures c.in-Deep.is

pub returns-in-Deep-clause-is_read : goal.returns-in-Deep-clause-is_read
returns-in-Deep-clause-is_read c = reads (kinds_of_all c.args.tokens.now) c.args.at (Err (error.TooDeep c.tokens.place)) (turn_deep c.args.tokens.now c.args.at c.tokens.place c.tokens.reader c.index-tokens-place.result c.in_ok-next.field-0 c.tokens.invariant c.tokens-test.true c.in_ok-next.ensures c.in-Deep.is)

pub returns-in-Left-clause-follows : goal.returns-in-Left-clause-follows
returns-in-Left-clause-follows c = turn_left c.args.tokens.now c.args.at c.tokens.place c.tokens.reader c.index-tokens-place.result c.in_ok-next.field-0 c.tokens.invariant c.tokens-test.true c.in_ok-next.ensures c.in-Left.measured c.in-Left.is

pub returns-in-Left-clause-is_read : goal.returns-in-Left-clause-is_read
returns-in-Left-clause-is_read c = reads (kinds_of_all c.args.tokens.now) c.args.at (Ok (record { pattern = c.in-Left.measured.pattern; next = c.tokens.place })) (turn_left c.args.tokens.now c.args.at c.tokens.place c.tokens.reader c.index-tokens-place.result c.in_ok-next.field-0 c.tokens.invariant c.tokens-test.true c.in_ok-next.ensures c.in-Left.measured c.in-Left.is)

pub tokens-preserved : goal.tokens-preserved
tokens-preserved c = turn_next c.args.tokens.now c.args.at c.tokens.place c.tokens.reader c.index-tokens-place.result c.in_ok-next.field-0 c.tokens.invariant c.tokens-test.true c.in_ok-next.ensures c.in-Next.next c.in-Next.is

pub returns-clause-is_read : goal.returns-clause-is_read
returns-clause-is_read c = reads (kinds_of_all c.args.tokens.now) c.args.at (Err (error.Unexpected c.tokens.place)) (over_there c.args.tokens.now c.args.at c.tokens.place c.tokens.reader c.tokens.invariant c.tokens-test.false)

pub returns-clause-follows : goal.returns-clause-follows
returns-clause-follows c = grind (arith, common_steps)

pub tokens-init : goal.tokens-init
tokens-init c = grind (arith, common_steps)
