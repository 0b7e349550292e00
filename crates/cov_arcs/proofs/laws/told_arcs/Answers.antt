use Rattle.cov_arcs.proofs.Runs.{program_law}
use Rattle.cov_arcs.proofs.laws.told_arcs.Goals as goal

pub returns : goal.returns
returns c = program_law
