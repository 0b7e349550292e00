use Rattle.py_code_laws.proofs.Law.{law}
use Rattle.py_code_laws.proofs.code_fits.Goals as goal

pub returns : goal.returns
returns c = law c.units_are_faithful.ensures c.premises_hold.ensures
