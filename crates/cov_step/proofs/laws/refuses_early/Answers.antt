use Rattle.cov_step.proofs.Early.{law_of_early}
use Rattle.cov_step.proofs.laws.refuses_early.Goals as goal

pub returns : goal.returns
returns c = law_of_early
