use Rattle.py_meaning.proofs.ProgramLaws.{call_prefix}
use Rattle.py_meaning.proofs.smaller_budget_of_call.Goals as goal

pub returns : goal.returns
returns c = call_prefix
