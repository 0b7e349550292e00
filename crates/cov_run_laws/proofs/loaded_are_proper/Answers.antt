use Rattle.cov_run_laws.proofs.Proper.{proper_law}
use Rattle.cov_run_laws.proofs.loaded_are_proper.Goals as goal

pub returns : goal.returns
returns g c = proper_law c.lines_of_texts.ensures _
