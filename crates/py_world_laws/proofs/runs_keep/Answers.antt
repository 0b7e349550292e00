use Rattle.py_world_laws.proofs.Law.{runs_keep}
use Rattle.py_world_laws.proofs.runs_keep.Goals as goal

pub returns : goal.returns
returns c = runs_keep
