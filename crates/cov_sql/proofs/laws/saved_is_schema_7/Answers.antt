use Rattle.cov_sql.proofs.ReadAgain.{saved_is_schema_7}
use Rattle.cov_sql.proofs.laws.saved_is_schema_7.Goals as goal

pub returns : goal.returns
returns c = saved_is_schema_7
