use Rattle.cov_step.proofs.Combining.{law_of_combine}
use Rattle.cov_step.proofs.laws.combine_is_careful.Goals as goal

pub returns : goal.returns
returns c = law_of_combine
