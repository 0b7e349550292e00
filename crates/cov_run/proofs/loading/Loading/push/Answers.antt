use Rattle.std.proofs.lemmas.Grind.{common_steps}
use Rattle.std.proofs.Common.{arith}
use Rattle.cov_run.proofs.loading.Loading.push.Goals as goal

pub returns-clause-modules : goal.returns-clause-modules
returns-clause-modules c = grind (arith, common_steps)
