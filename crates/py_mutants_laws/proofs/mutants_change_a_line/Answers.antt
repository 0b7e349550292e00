use Rattle.py_mutants_laws.proofs.Law.{mutants_change_a_line}
use Rattle.py_mutants_laws.proofs.mutants_change_a_line.Goals as goal

pub returns : goal.returns
returns c = mutants_change_a_line
