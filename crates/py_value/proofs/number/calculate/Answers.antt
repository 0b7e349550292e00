use Rattle.std.proofs.Common.{arith}
use Rattle.std.proofs.lemmas.Grind.{common_steps}
use Rattle.py_value.proofs.number.calculate.Goals as goal

pub returns-in-Add : goal.returns-in-Add
returns-in-Add c = grind (arith, common_steps)

pub returns-in-Sub : goal.returns-in-Sub
returns-in-Sub c = grind (arith, common_steps)

pub returns-in-Mul : goal.returns-in-Mul
returns-in-Mul c = grind (arith, common_steps)

pub returns-then-right-eq0 : goal.returns-then-right-eq0
returns-then-right-eq0 c = grind (arith, common_steps)

pub returns-else-right-eq0 : goal.returns-else-right-eq0
returns-else-right-eq0 c = grind (arith, common_steps)

pub returns-then-right-eq0-2 : goal.returns-then-right-eq0-2
returns-then-right-eq0-2 c = grind (arith, common_steps)

pub returns-else-right-eq0-2 : goal.returns-else-right-eq0-2
returns-else-right-eq0-2 c = grind (arith, common_steps)
