use Rattle.cov_complete_laws.proofs.Defaults.{defaults-set}
use Rattle.cov_complete_laws.proofs.laws.defaults_are_set.Goals as goal

pub returns : goal.returns
returns c = defaults-set
