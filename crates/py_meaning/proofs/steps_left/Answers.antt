use Rattle.py_meaning.proofs.ProgramLaws.{steps_fall}
use Rattle.py_meaning.proofs.steps_left.Goals as goal

pub returns : goal.returns
returns c = steps_fall
