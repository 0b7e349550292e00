use Rattle.std.proofs.Common.{arith}
use Rattle.std.proofs.lemmas.Grind.{common_steps}
use Rattle.py_value.proofs.heap.Heap.place_of.Goals as goal

pub returns-in-Some-Dict : goal.returns-in-Some-Dict
returns-in-Some-Dict c = grind (arith, common_steps)

pub returns-in-Some-List : goal.returns-in-Some-List
returns-in-Some-List c = grind (arith, common_steps)

pub returns-in-Some-List-2 : goal.returns-in-Some-List-2
returns-in-Some-List-2 c = grind (arith, common_steps)
