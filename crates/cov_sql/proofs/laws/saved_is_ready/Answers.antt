use Rattle.cov_sql.proofs.ReadAgain.{saved_is_ready}
use Rattle.cov_sql.proofs.laws.saved_is_ready.Goals as goal

pub returns : goal.returns
returns c = saved_is_ready
