use Rattle.std.proofs.lemmas.Grind.{common_steps}
use Rattle.std.proofs.Common.{arith}
use Rattle.py_instructions.proofs.making.new_tuple.Goals as goal

pub returns-in_ok-of-2 : goal.returns-in_ok-of-2
returns-in_ok-of-2 c = grind (arith, common_steps)

pub returns-in_ok-new : goal.returns-in_ok-new
returns-in_ok-new c = grind (arith, common_steps)
