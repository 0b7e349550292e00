use Rattle.py_meaning.proofs.ProgramLaws.{program_budget}
use Rattle.py_meaning.proofs.larger_budget.Goals as goal

pub returns : goal.returns
returns c = program_budget
