use Rattle.std.proofs.Common.{arith}
use Rattle.std.proofs.lemmas.Grind.{common_steps}
use Rattle.py_value.proofs.heap.Heap.make_list.Goals as goal

pub returns-clause-address : goal.returns-clause-address
returns-clause-address c = grind (arith, common_steps)

pub returns-clause-ok : goal.returns-clause-ok
returns-clause-ok c = grind (arith, common_steps)
