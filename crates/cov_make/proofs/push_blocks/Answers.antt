use Rattle.std.proofs.Common.{arith}
use Rattle.cov_make.proofs.Turns.{pushed, all_pushed}
use Rattle.cov_make.proofs.push_blocks.Goals as goal

pub loop-turn-preserved : goal.loop-turn-preserved
loop-turn-preserved c =
    pushed _ _ _ c.loop-turn.number _ c.args.size c.loop-turn._turn (omega arith) c.next_number-number.ensures c.in_ok-push_block.ensures c.loop-turn.invariant

pub returns : goal.returns
returns c = all_pushed _ _ c.loop-turn.number c.args.size c.loop-turn._turn c.loop-turn-test.false c.loop-turn.invariant
