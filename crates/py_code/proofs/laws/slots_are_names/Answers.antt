use Rattle.py_code.proofs.OneMachine.{one_machine}
use Rattle.py_code.proofs.laws.slots_are_names.Goals as goal

pub returns : goal.returns
returns c = one_machine
