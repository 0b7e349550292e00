use Rattle.std.proofs.lemmas.Grind.{common_steps}
use Rattle.std.proofs.Common.{arith}
use Rattle.py_compile_unit.proofs.handlers.continued.Goals as goal

pub returns : goal.returns
returns c = grind (arith, common_steps)
