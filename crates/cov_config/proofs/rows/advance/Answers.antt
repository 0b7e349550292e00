use Rattle.std.proofs.Common.{◌∙◌, refl, arith}
use Rattle.cov_config.proofs.Steps.{advanced_more, advanced_last}
use Rattle.cov_config.proofs.rows.advance.Goals as goal

pub loop-i-preserved : goal.loop-i-preserved
loop-i-preserved c =
    advanced_more c.loop-i.row c.args.tests.now c.loop-i.i c.loop-i.reached (omega arith) (omega arith) ∙ c.loop-i.invariant

pub returns : goal.returns
returns c =
    advanced_last c.loop-i.row c.args.tests.now c.loop-i.i _ c.loop-i.reached (omega arith) refl (omega arith) ∙ c.loop-i.invariant
