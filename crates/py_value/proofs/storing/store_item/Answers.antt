use Rattle.std.proofs.lemmas.Grind.{common_steps}
use Rattle.std.proofs.Common.{arith}
use Rattle.py_value.proofs.storing.store_item.Goals as goal

pub returns-in-None-place_among-clause-answer : goal.returns-in-None-place_among-clause-answer
returns-in-None-place_among-clause-answer c = grind (arith, common_steps)

pub returns-in-Some-place_among-clause-answer : goal.returns-in-Some-place_among-clause-answer
returns-in-Some-place_among-clause-answer c = grind (arith, common_steps)
