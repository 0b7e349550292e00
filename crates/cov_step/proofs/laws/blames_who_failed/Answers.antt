use Rattle.cov_step.proofs.Blames.{law_of_blame}
use Rattle.cov_step.proofs.laws.blames_who_failed.Goals as goal

pub returns : goal.returns
returns c = law_of_blame
