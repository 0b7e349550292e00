use Rattle.std.proofs.lemmas.Grind.{common_steps}
use Rattle.std.proofs.Common.{arith}
use Rattle.py_value.proofs.heap.Heap.pairs.Goals as goal

pub returns-in-Some-Dict : goal.returns-in-Some-Dict
returns-in-Some-Dict c = grind (arith, common_steps)
