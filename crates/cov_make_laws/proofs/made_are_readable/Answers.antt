use Rattle.cov_make_laws.proofs.Readings.{readable}
use Rattle.cov_make_laws.proofs.made_are_readable.Goals as goal

pub returns : goal.returns
returns c = readable
