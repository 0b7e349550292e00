use Rattle.py_mutants_laws.proofs.UnreachedMutants.{unreached_mutants}
use Rattle.py_mutants_laws.proofs.unreached_mutants.Goals as goal

pub returns : goal.returns
returns c = unreached_mutants
