use Rattle.std.proofs.lemmas.Grind.{common_steps}
use Rattle.std.proofs.Common.{arith}
use Rattle.py_instructions.proofs.operand.Way.copy.Goals as goal

pub returns-in_ok-copy_raised-in-Raise : goal.returns-in_ok-copy_raised-in-Raise
returns-in_ok-copy_raised-in-Raise c = grind (arith, common_steps)
