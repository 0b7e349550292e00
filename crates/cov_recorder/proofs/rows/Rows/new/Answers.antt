use Rattle.std.proofs.Common.{map, sym, subst}
use Rattle.cov_recorder.specs.Rows.{row_from}
use Rattle.cov_recorder.proofs.Counting.{AreEmpty, AreEmpty-none, AreEmpty-push, AreIndexed-none}
use Rattle.cov_recorder.proofs.rows.Rows.new.Goals as goal

pub loop-init : goal.loop-init
loop-init c = subst AreEmpty (sym c.new-numbers.ensures.items) AreEmpty-none

pub loop-preserved : goal.loop-preserved
loop-preserved c = subst AreEmpty (sym c.in_ok-push.ensures.items) (AreEmpty-push c.loop.numbers.items c.new.result c.new.ensures c.loop.invariant)

pub invariant_of-result : goal.invariant_of-result
invariant_of-result c = AreIndexed-none c.loop.numbers.items (map row_from c.new-2.result.items) c.loop.invariant
