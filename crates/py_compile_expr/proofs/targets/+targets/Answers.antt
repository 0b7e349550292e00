use Rattle.std.proofs.lemmas.Grind.{common_steps}
use Rattle.std.proofs.Common.{arith}
use Rattle.py_compile_expr.proofs.targets.+targets.Goals as goal

pub put_targets-returns-clause-place : goal.put_targets-returns-clause-place
put_targets-returns-clause-place t c = grind (arith, common_steps)

pub put_targets-loop-e-preserved : goal.put_targets-loop-e-preserved
put_targets-loop-e-preserved t c = grind (arith, common_steps)

pub put_unpack-returns-clause-cells : goal.put_unpack-returns-clause-cells
put_unpack-returns-clause-cells t c = grind (arith, common_steps)
