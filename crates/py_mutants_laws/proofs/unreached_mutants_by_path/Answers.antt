use Rattle.py_mutants_laws.proofs.ByPath.{unreached_mutants_by_path}
use Rattle.py_mutants_laws.proofs.unreached_mutants_by_path.Goals as goal

pub returns : goal.returns
returns c = unreached_mutants_by_path
