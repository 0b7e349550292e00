use Rattle.py_changes.proofs.MutantLaws.{mutants_differ}
use Rattle.py_changes.proofs.mutants_differ.Goals as goal

pub returns : goal.returns
returns c = mutants_differ
