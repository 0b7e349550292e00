use Rattle.std.proofs.lemmas.Grind.{common_steps}
use Rattle.std.proofs.Common.{arith}
use Rattle.py_value.proofs.heap.Heap.items.Goals as goal

pub returns-in-Some-List : goal.returns-in-Some-List
returns-in-Some-List c = grind (arith, common_steps)
