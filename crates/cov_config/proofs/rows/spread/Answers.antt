use Rattle.std.proofs.Common.{◌∙◌, arith}
use Rattle.cov_config.proofs.Steps.{spread_more}
use Rattle.cov_config.proofs.rows.spread.Goals as goal

pub loop-place-preserved : goal.loop-place-preserved
loop-place-preserved c = spread_more c.loop-place.row c.loop-place.place-index c.loop-place.reached (omega arith) ∙ c.loop-place.invariant
