use Rattle.std.proofs.Common.{arith}
use Rattle.std.proofs.lemmas.Grind.{common_steps}
use Rattle.py_value.proofs.arithmetic.repeat_sequence.Goals as goal

pub returns-in-Ok-clause-answer : goal.returns-in-Ok-clause-answer
returns-in-Ok-clause-answer c = grind (arith, common_steps)

pub returns-in-Err-clause-answer : goal.returns-in-Err-clause-answer
returns-in-Err-clause-answer c = grind (arith, common_steps)

pub returns-in_ok-new-in-Ok-2-clause-answer : goal.returns-in_ok-new-in-Ok-2-clause-answer
returns-in_ok-new-in-Ok-2-clause-answer c = grind (arith, common_steps)

pub returns-in-Err-2-clause-answer : goal.returns-in-Err-2-clause-answer
returns-in-Err-2-clause-answer c = grind (arith, common_steps)

pub returns-in_ok-make_list-in-Ok-3-clause-answer : goal.returns-in_ok-make_list-in-Ok-3-clause-answer
returns-in_ok-make_list-in-Ok-3-clause-answer c = grind (arith, common_steps)

pub returns-in-Err-3-clause-answer : goal.returns-in-Err-3-clause-answer
returns-in-Err-3-clause-answer c = grind (arith, common_steps)
