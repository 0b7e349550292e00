use Rattle.std.proofs.lemmas.Grind.{common_steps}
use Rattle.std.proofs.Common.{arith}
use Rattle.py_value.proofs.comparisons.truth.Goals as goal

pub returns-in-Str : goal.returns-in-Str
returns-in-Str c = grind (arith, common_steps)

pub returns-in-List : goal.returns-in-List
returns-in-List c = grind (arith, common_steps)

pub returns-in-Tuple : goal.returns-in-Tuple
returns-in-Tuple c = grind (arith, common_steps)

pub returns-in-Dict : goal.returns-in-Dict
returns-in-Dict c = grind (arith, common_steps)
