use Rattle.std.proofs.Common.{sym, ap, ◌∙◌}
use Rattle.py_grammar.specs.Machine.{Outside}
use Rattle.py_parse_expr.specs.ExprReads.{goal_of}
use Rattle.py_syntax.specs.Spelling.{HEIGHT}
use Rattle.py_parse_expr.proofs.View.ExprFields.{same_limit}
use Rattle.py_parse_expr.proofs.View.ExprReader.{starts, turn_next, turn_stuck, turn_left, turn_deep, turn_bad, over_there}
use Rattle.py_parse_expr.proofs.exprs.read_expr.Goals as goal

pub tokens-init : goal.tokens-init
tokens-init c = starts (goal_of c.args.part) c.args.tokens.now c.args.at c.precedence.result c.new-stack.result c.requires c.precedence.ensures (c.new-stack.ensures.view ∙ ap Outside c.goal.ensures.view) c.new-stack.ensures.valid

pub tokens-preserved : goal.tokens-preserved
tokens-preserved c = turn_next (goal_of c.args.part) c.args.tokens.now c.args.at c.tokens.place c.tokens.progress c.tokens.stack c.turn.new.stack c.index-tokens-place.result c.in_ok-next.field-0 c.tokens.invariant c.tokens-test.true c.in_ok-next.ensures c.in-Next.next c.in-Next.is

pub turn-requires-clause-valid : goal.turn-requires-clause-valid
turn-requires-clause-valid c = same_limit HEIGHT c.tokens.stack c.tokens.invariant.valid

pub turn-requires-clause-at : goal.turn-requires-clause-at
turn-requires-clause-at c = c.tokens.invariant.going

pub returns-in-Stuck : goal.returns-in-Stuck
returns-in-Stuck c = record { follows = turn_stuck (goal_of c.args.part) c.args.tokens.now c.args.at c.tokens.place c.tokens.progress c.tokens.stack c.turn.new.stack c.index-tokens-place.result c.in_ok-next.field-0 c.tokens.invariant c.tokens-test.true c.in_ok-next.ensures c.in-Stuck.is }

pub returns-in-Left : goal.returns-in-Left
returns-in-Left c = record { follows = turn_left (goal_of c.args.part) c.args.tokens.now c.args.at c.tokens.place c.tokens.progress c.tokens.stack c.turn.new.stack c.index-tokens-place.result c.in_ok-next.field-0 c.tokens.invariant c.tokens-test.true c.in_ok-next.ensures c.in-Left.measured c.in-Left.is }

pub returns-then-branch : goal.returns-then-branch
returns-then-branch c = record { follows = turn_deep (goal_of c.args.part) c.args.tokens.now c.args.at c.tokens.place c.tokens.progress c.tokens.stack c.turn.new.stack c.index-tokens-place.result c.in_ok-next.field-0 c.tokens.invariant c.tokens-test.true c.in_ok-next.ensures c.in-Deep.is c.index-tokens-place-in-Deep.result (sym c.if-branch.true ∙ c.in_ok-has_spelled_fields-in-Deep.ensures) }

pub returns-in-Deep : goal.returns-in-Deep
returns-in-Deep c = record { follows = turn_bad (goal_of c.args.part) c.args.tokens.now c.args.at c.tokens.place c.tokens.progress c.tokens.stack c.turn.new.stack c.index-tokens-place.result c.in_ok-next.field-0 c.tokens.invariant c.tokens-test.true c.in_ok-next.ensures c.in-Deep.is c.index-tokens-place-in-Deep.result (sym c.if-branch.false ∙ c.in_ok-has_spelled_fields-in-Deep.ensures) }

pub returns : goal.returns
returns c = record { follows = over_there (goal_of c.args.part) c.args.tokens.now c.args.at c.tokens.place c.tokens.progress c.tokens.stack c.tokens.invariant c.tokens-test.false }
