use Rattle.py_changes.proofs.UnreachedChange.{unreached_change}
use Rattle.py_changes.proofs.unreached_changes.Goals as goal

pub returns : goal.returns
returns c = unreached_change
