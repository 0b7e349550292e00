use Rattle.std.proofs.lemmas.Grind.{common_steps}
use Rattle.std.proofs.Common.{arith}
use Rattle.py_compile_expr.proofs.patterns.+captured.Goals as goal

pub push_captured_each-returns : goal.push_captured_each-returns
push_captured_each-returns t c = grind (arith, common_steps)

pub push_captured_each-loop-item-preserved : goal.push_captured_each-loop-item-preserved
push_captured_each-loop-item-preserved t c = grind (arith, common_steps)
