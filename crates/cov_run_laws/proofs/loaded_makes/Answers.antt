use Rattle.cov_run_laws.proofs.Law.{law}
use Rattle.cov_run_laws.proofs.loaded_makes.Goals as goal

pub returns : goal.returns
returns g c = law c.own_lines.ensures c.code_makes.ensures _
