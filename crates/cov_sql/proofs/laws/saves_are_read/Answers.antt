use Rattle.cov_sql.proofs.ReadAgain.{saves_are_read}
use Rattle.cov_sql.proofs.laws.saves_are_read.Goals as goal

pub returns : goal.returns
returns g c = saves_are_read g.S.Store
