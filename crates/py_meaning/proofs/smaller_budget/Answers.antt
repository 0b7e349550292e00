use Rattle.py_meaning.proofs.ProgramLaws.{program_prefix}
use Rattle.py_meaning.proofs.smaller_budget.Goals as goal

pub returns : goal.returns
returns c = program_prefix
