use Rattle.py_mutants_laws.proofs.Forms.{mutants_keep_forms}
use Rattle.py_mutants_laws.proofs.mutants_keep_forms.Goals as goal

pub returns : goal.returns
returns c = mutants_keep_forms
