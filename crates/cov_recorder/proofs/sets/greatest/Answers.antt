use Rattle.std.proofs.Common.{arith}
use Rattle.cov_recorder.proofs.LineSets.{greatest_more}
use Rattle.cov_recorder.proofs.sets.greatest.Goals as goal

pub loop-place-preserved : goal.loop-place-preserved
loop-place-preserved c =
    let a = c.at.result in
    let more = greatest_more c.args.set.now c.loop-place.place a c.at.ensures in
    let m1 = c.max-most.ensures in
    let m2 = c.greater_line.ensures.value in
    record { value = omega (arith, more, m1, m2); small = omega arith }
