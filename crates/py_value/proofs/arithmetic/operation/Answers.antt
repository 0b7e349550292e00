use Rattle.std.proofs.Common.{arith}
use Rattle.std.proofs.lemmas.Grind.{common_steps}
use Rattle.py_value.proofs.arithmetic.operation.Goals as goal

pub returns-in-Add-clause-answer : goal.returns-in-Add-clause-answer
returns-in-Add-clause-answer c = grind (arith, common_steps)

pub returns-in-Mul-clause-answer : goal.returns-in-Mul-clause-answer
returns-in-Mul-clause-answer c = grind (arith, common_steps)
