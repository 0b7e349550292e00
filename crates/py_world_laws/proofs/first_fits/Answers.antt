use Rattle.py_world_laws.proofs.Law.{first_fits}
use Rattle.py_world_laws.proofs.first_fits.Goals as goal

pub returns : goal.returns
returns c = first_fits
