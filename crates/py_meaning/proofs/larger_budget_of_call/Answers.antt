use Rattle.py_meaning.proofs.ProgramLaws.{call_budget}
use Rattle.py_meaning.proofs.larger_budget_of_call.Goals as goal

pub returns : goal.returns
returns c = call_budget
