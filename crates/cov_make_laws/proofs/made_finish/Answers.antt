use Rattle.cov_make_laws.proofs.WholeRuns as whole
use Rattle.cov_make_laws.proofs.made_finish.Goals as goal

pub returns : goal.returns
returns c = whole.made_finish
