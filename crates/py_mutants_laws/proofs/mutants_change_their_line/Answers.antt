use Rattle.py_mutants_laws.proofs.TheirLine.{mutants_change_their_line}
use Rattle.py_mutants_laws.proofs.mutants_change_their_line.Goals as goal

pub returns : goal.returns
returns c = mutants_change_their_line
