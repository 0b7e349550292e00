use Rattle.py_meaning.proofs.ProgramLaws.{modules_prefix}
use Rattle.py_meaning.proofs.smaller_budget_of_modules.Goals as goal

pub returns : goal.returns
returns c = modules_prefix
