use Rattle.std.proofs.lemmas.Grind.{common_steps}
use Rattle.std.proofs.Common.{arith}
use Rattle.py_instructions.proofs.operand.Operand.copy.Goals as goal

pub returns-in_ok-copy-in-Way : goal.returns-in_ok-copy-in-Way
returns-in_ok-copy-in-Way c = grind (arith, common_steps)

pub returns-in_ok-copy-in-Method : goal.returns-in_ok-copy-in-Method
returns-in_ok-copy-in-Method c = grind (arith, common_steps)

pub returns-in_ok-copy-in-Walk : goal.returns-in_ok-copy-in-Walk
returns-in_ok-copy-in-Walk c = grind (arith, common_steps)
