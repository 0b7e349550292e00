use Rattle.py_world_laws.proofs.Law.{calls_keep}
use Rattle.py_world_laws.proofs.calls_keep.Goals as goal

pub returns : goal.returns
returns c = calls_keep
