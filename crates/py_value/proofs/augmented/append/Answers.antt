use Rattle.std.proofs.Common.{arith}
use Rattle.std.proofs.lemmas.Grind.{common_steps}
use Rattle.py_value.proofs.augmented.append.Goals as goal

pub returns-in_ok-append-clause-answer : goal.returns-in_ok-append-clause-answer
returns-in_ok-append-clause-answer c = grind (arith, common_steps)

pub returns-in_ok-of-clause-answer : goal.returns-in_ok-of-clause-answer
returns-in_ok-of-clause-answer c = grind (arith, common_steps)
