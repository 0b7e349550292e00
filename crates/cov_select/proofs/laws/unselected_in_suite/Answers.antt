use Rattle.cov_select.proofs.Unselected.{unselected}
use Rattle.cov_select.proofs.laws.unselected_in_suite.Goals as goal

pub returns : goal.returns
returns g c = unselected g.P.Plugin c.unchanged_by_paths.ensures
