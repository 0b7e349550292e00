use Rattle.py_mutants_laws.proofs.Normality.{mutants_are_normal}
use Rattle.py_mutants_laws.proofs.mutants_are_normal.Goals as goal

pub returns : goal.returns
returns c = mutants_are_normal
