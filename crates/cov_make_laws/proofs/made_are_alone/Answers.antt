use Rattle.cov_make_laws.proofs.Imports.{made_alone}
use Rattle.cov_make_laws.proofs.made_are_alone.Goals as goal

pub returns : goal.returns
returns c = made_alone
