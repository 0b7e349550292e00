use Rattle.std.proofs.Common.{arith}
use Rattle.std.proofs.lemmas.Grind.{common_steps}
use Rattle.py_value.proofs.slicing.slice.Goals as goal

pub returns-in_ok-made-in-List-clause-answer : goal.returns-in_ok-made-in-List-clause-answer
returns-in_ok-made-in-List-clause-answer c = grind (arith, common_steps)

pub returns-in_ok-new-in-Tuple-clause-answer : goal.returns-in_ok-new-in-Tuple-clause-answer
returns-in_ok-new-in-Tuple-clause-answer c = grind (arith, common_steps)

pub returns-in_ok-part_of_text-in-Str-clause-answer : goal.returns-in_ok-part_of_text-in-Str-clause-answer
returns-in_ok-part_of_text-in-Str-clause-answer c = grind (arith, common_steps)
