use Rattle.std.proofs.lemmas.Grind.{common_steps}
use Rattle.std.proofs.Common.{arith}
use Rattle.cov_why.proofs.why.Why.message.Goals as goal

pub returns-in-Mixed : goal.returns-in-Mixed
returns-in-Mixed c = grind (arith, common_steps)
