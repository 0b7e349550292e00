use Rattle.py_world_laws.proofs.Law.{fewer_fit}
use Rattle.py_world_laws.proofs.fewer_fit.Goals as goal

pub returns : goal.returns
returns c = fewer_fit
