use Rattle.cov_arcs.proofs.Following.{beginning_law}
use Rattle.cov_arcs.proofs.laws.told_arcs_of_first_events.Goals as goal

pub returns : goal.returns
returns c = beginning_law
