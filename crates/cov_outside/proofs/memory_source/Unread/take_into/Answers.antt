use Rattle.std.proofs.Common.{arith}
use Rattle.std.proofs.lemmas.Grind.{common_steps}
use Rattle.cov_outside.proofs.Parts.{moved_parts}
use Rattle.cov_outside.proofs.memory_source.Unread.take_into.Goals as goal

pub returns-clause-moved : goal.returns-clause-moved
returns-clause-moved c =
    rw (← c.self.view_is) (moved_parts c.as_slice.result.now c.self.inside.bytes.items c.copy_from_slice.new.self c.args.buf.now c.self.inside.at c.min-count.result c.as_slice.ensures.value (omega (arith, c.min-count.ensures)) (grind (arith, common_steps)))
