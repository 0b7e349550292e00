use Rattle.std.proofs.Common.{arith}
use Rattle.std.proofs.lemmas.Grind.{common_steps}
use Rattle.py_value.proofs.number.floor_mod.Goals as goal

pub returns-then-right-lt0 : goal.returns-then-right-lt0
returns-then-right-lt0 c = grind (arith, common_steps)

pub returns-else-right-lt0 : goal.returns-else-right-lt0
returns-else-right-lt0 c = grind (arith, common_steps)
