use Rattle.cov_step.proofs.Care.{law_of_care}
use Rattle.cov_step.proofs.laws.careful.Goals as goal

pub returns : goal.returns
returns c = law_of_care
