use Rattle.std.proofs.Common.{arith}
use Rattle.std.proofs.lemmas.Grind.{common_steps}
use Rattle.py_value.proofs.arithmetic.binary.Goals as goal

pub returns-in-Ok-clause-answer : goal.returns-in-Ok-clause-answer
returns-in-Ok-clause-answer c = grind (arith, common_steps)

pub returns-in_ok-of-in-Err-clause-answer : goal.returns-in_ok-of-in-Err-clause-answer
returns-in_ok-of-in-Err-clause-answer c = grind (arith, common_steps)
