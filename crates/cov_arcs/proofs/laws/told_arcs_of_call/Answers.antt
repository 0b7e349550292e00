use Rattle.cov_arcs.proofs.Runs.{call_law}
use Rattle.cov_arcs.proofs.laws.told_arcs_of_call.Goals as goal

pub returns : goal.returns
returns c = call_law
