use Rattle.std.proofs.Common.{arith}
use Rattle.std.proofs.lemmas.Grind.{common_steps}
use Rattle.py_value.proofs.augmented.extend.Goals as goal

pub returns-in_ok-characters-in-Str-clause-answer : goal.returns-in_ok-characters-in-Str-clause-answer
returns-in_ok-characters-in-Str-clause-answer c = grind (arith, common_steps)

pub returns-in_ok-copies-in-List-clause-answer : goal.returns-in_ok-copies-in-List-clause-answer
returns-in_ok-copies-in-List-clause-answer c = grind (arith, common_steps)

pub returns-in_ok-copies-in-Tuple-clause-answer : goal.returns-in_ok-copies-in-Tuple-clause-answer
returns-in_ok-copies-in-Tuple-clause-answer c = grind (arith, common_steps)

pub returns-in_ok-keys-in-Dict-clause-answer : goal.returns-in_ok-keys-in-Dict-clause-answer
returns-in_ok-keys-in-Dict-clause-answer c = grind (arith, common_steps)
