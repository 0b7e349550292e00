use Rattle.cov_arcs.proofs.Runs.{modules_law}
use Rattle.cov_arcs.proofs.laws.told_arcs_of_modules.Goals as goal

pub returns : goal.returns
returns c = modules_law
