use Rattle.py_meaning.proofs.SteadyStatements.{steady_law}
use Rattle.py_meaning.proofs.steps_left_by_calls.Goals as goal

pub returns : goal.returns
returns c = steady_law
