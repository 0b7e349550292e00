use Rattle.py_mutants_laws.proofs.Findings.{mutants_are_well_formed}
use Rattle.py_mutants_laws.proofs.mutants_are_well_formed.Goals as goal

pub returns : goal.returns
returns c = mutants_are_well_formed
