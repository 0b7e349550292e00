use Rattle.cov_step.proofs.Yielding.{law_of_want}
use Rattle.cov_step.proofs.laws.yields_to_want_of_memory.Goals as goal

pub returns : goal.returns
returns c = law_of_want
