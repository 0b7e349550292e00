use Rattle.py_changes.proofs.UnreachedPaths.{unchanged_by_paths}
use Rattle.py_changes.proofs.unchanged_by_paths.Goals as goal

pub returns : goal.returns
returns c = unchanged_by_paths
