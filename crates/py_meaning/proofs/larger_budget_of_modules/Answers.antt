use Rattle.py_meaning.proofs.ProgramLaws.{modules_budget}
use Rattle.py_meaning.proofs.larger_budget_of_modules.Goals as goal

pub returns : goal.returns
returns c = modules_budget
