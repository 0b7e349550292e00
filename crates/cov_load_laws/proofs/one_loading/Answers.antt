use Rattle.cov_load_laws.proofs.Loadings.{one-loading, not-stopped}
use Rattle.cov_load_laws.proofs.one_loading.Goals as goal

pub returns-clause-one : goal.returns-clause-one
returns-clause-one c = one-loading c.one_text.ensures

pub returns-clause-not_stopped : goal.returns-clause-not_stopped
returns-clause-not_stopped c = not-stopped c.one_text.ensures
