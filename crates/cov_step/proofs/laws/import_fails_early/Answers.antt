use Rattle.cov_step.proofs.Early.{law_of_import}
use Rattle.cov_step.proofs.laws.import_fails_early.Goals as goal

pub returns : goal.returns
returns c = law_of_import
