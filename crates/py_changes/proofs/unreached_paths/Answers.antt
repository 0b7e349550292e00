use Rattle.py_changes.proofs.UnreachedPaths.{unreached_paths}
use Rattle.py_changes.proofs.unreached_paths.Goals as goal

pub returns : goal.returns
returns c = unreached_paths
