use Rattle.std.proofs.lemmas.Grind.{common_steps}
use Rattle.std.proofs.Common.{arith}
use Rattle.py_compile_expr.proofs.patterns.+captures.Goals as goal

pub captures_each-loop-item-preserved : goal.captures_each-loop-item-preserved
captures_each-loop-item-preserved t c = grind (arith, common_steps)
