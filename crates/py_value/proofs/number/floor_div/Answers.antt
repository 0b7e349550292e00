use Rattle.std.proofs.Common.{arith}
use Rattle.std.proofs.lemmas.Grind.{common_steps}
use Rattle.py_value.proofs.number.floor_div.Goals as goal

pub returns-then-quotient : goal.returns-then-quotient
returns-then-quotient c = grind (arith, common_steps)

pub returns-else-quotient : goal.returns-else-quotient
returns-else-quotient c = grind (arith, common_steps)

pub returns-then-dividend-eq0 : goal.returns-then-dividend-eq0
returns-then-dividend-eq0 c = grind (arith, common_steps)

pub returns-else-dividend-eq0 : goal.returns-else-dividend-eq0
returns-else-dividend-eq0 c = grind (arith, common_steps)
