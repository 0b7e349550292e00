use Rattle.std.proofs.lemmas.Grind.{common_steps}
use Rattle.std.proofs.Common.{arith}
use Rattle.py_instructions.proofs.frame.State.assertion_with.Goals as goal

pub returns-in_ok-arg : goal.returns-in_ok-arg
returns-in_ok-arg c = grind (arith, common_steps)

pub returns-in_ok-of : goal.returns-in_ok-of
returns-in_ok-of c = grind (arith, common_steps)
