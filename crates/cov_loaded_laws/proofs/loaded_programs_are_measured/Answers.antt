use Rattle.cov_loaded_laws.proofs.Loading.{loaded_law}
use Rattle.cov_loaded_laws.proofs.loaded_programs_are_measured.Goals as goal

pub returns : goal.returns
returns c = loaded_law c.units_of_programs.ensures
