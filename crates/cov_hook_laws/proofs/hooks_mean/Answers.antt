use Rattle.cov_hook_laws.proofs.Law.{law}
use Rattle.cov_hook_laws.proofs.hooks_mean.Goals as goal

pub returns : goal.returns
returns c = law c.units_are_faithful.ensures c.traces_kept.ensures
