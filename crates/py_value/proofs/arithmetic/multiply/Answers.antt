use Rattle.std.proofs.lemmas.Grind.{common_steps}
use Rattle.std.proofs.Common.{arith}
use Rattle.py_value.proofs.arithmetic.multiply.Goals as goal

pub returns-in-Str-right : goal.returns-in-Str-right
returns-in-Str-right c = grind (arith, common_steps)

pub returns-in_default-right : goal.returns-in_default-right
returns-in_default-right c = grind (arith, common_steps)
