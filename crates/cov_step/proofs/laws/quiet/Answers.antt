use Rattle.cov_step.proofs.Silence.{law_of_quiet}
use Rattle.cov_step.proofs.laws.quiet.Goals as goal

pub returns : goal.returns
returns c = law_of_quiet
