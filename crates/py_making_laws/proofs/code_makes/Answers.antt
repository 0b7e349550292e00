use Rattle.py_making_laws.proofs.Law.{law}
use Rattle.py_making_laws.proofs.code_makes.Goals as goal

pub returns : goal.returns
returns c = law c.sizes_hold.ensures c.units_are_faithful.ensures c.premises_hold.ensures
