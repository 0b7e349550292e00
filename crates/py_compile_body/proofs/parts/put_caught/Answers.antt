use Rattle.std.proofs.lemmas.Grind.{common_steps}
use Rattle.std.proofs.Common.{arith}
use Rattle.py_compile_body.proofs.parts.put_caught.Goals as goal

pub returns-in_ok-at-in-Some-2-clause-cells : goal.returns-in_ok-at-in-Some-2-clause-cells
returns-in_ok-at-in-Some-2-clause-cells c = grind (arith, common_steps)
