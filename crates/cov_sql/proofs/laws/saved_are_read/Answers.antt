use Rattle.cov_sql.proofs.ReadAgain.{saved_are_read}
use Rattle.cov_sql.proofs.laws.saved_are_read.Goals as goal

pub returns : goal.returns
returns c = saved_are_read
