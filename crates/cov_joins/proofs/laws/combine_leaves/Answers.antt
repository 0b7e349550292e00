use Rattle.cov_joins.proofs.Leaving.{leaves-law}
use Rattle.cov_joins.proofs.laws.combine_leaves.Goals as goal

pub returns : goal.returns
returns g c = leaves-law g.H.Shelf g.V.Vault
