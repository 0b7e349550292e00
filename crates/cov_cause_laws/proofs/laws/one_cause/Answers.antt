use Rattle.cov_cause_laws.proofs.Causing.{one-cause-law}
use Rattle.cov_cause_laws.proofs.laws.one_cause.Goals as goal

pub returns : goal.returns
returns c = one-cause-law c.one_reading.ensures.one c.one_loading.ensures.one c.one_loading.ensures.not_stopped c.one_command.ensures
