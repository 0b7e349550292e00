use Rattle.std.proofs.Common.{arith}
use Rattle.std.proofs.lemmas.Grind.{common_steps}
use Rattle.py_value.proofs.storing.store_value.Goals as goal

pub returns-clause-answer : goal.returns-clause-answer
returns-clause-answer c = grind (arith, common_steps)

pub returns-then-not-is_key-clause-answer : goal.returns-then-not-is_key-clause-answer
returns-then-not-is_key-clause-answer c = grind (arith, common_steps)

pub returns-then-pairs-ge-MOST_ITEMS-clause-answer : goal.returns-then-pairs-ge-MOST_ITEMS-clause-answer
returns-then-pairs-ge-MOST_ITEMS-clause-answer c = grind (arith, common_steps)
