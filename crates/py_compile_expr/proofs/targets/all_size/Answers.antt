use Rattle.std.proofs.lemmas.Grind.{common_steps}
use Rattle.std.proofs.Common.{arith}
use Rattle.py_compile_expr.proofs.targets.all_size.Goals as goal

pub loop-e-preserved : goal.loop-e-preserved
loop-e-preserved c = grind (arith, common_steps)
