use Rattle.std.proofs.lemmas.Grind.{common_steps}
use Rattle.std.proofs.Common.{arith}
use Rattle.py_instructions.proofs.making.new_list.Goals as goal

pub returns-in_ok-of-clause-answer : goal.returns-in_ok-of-clause-answer
returns-in_ok-of-clause-answer c = grind (arith, common_steps)

pub returns-in_ok-made-clause-answer : goal.returns-in_ok-made-clause-answer
returns-in_ok-made-clause-answer c = grind (arith, common_steps)
