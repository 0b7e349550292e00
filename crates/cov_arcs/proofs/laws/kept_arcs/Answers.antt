use Rattle.cov_arcs.proofs.Tracing.{tracing_law}
use Rattle.cov_arcs.proofs.laws.kept_arcs.Goals as goal

pub returns : goal.returns
returns c = tracing_law
