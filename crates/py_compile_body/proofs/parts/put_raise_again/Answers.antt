use Rattle.std.proofs.lemmas.Grind.{common_steps}
use Rattle.std.proofs.Common.{arith}
use Rattle.py_compile_body.proofs.parts.put_raise_again.Goals as goal

pub returns-in_ok-at-in-None-clause-cells : goal.returns-in_ok-at-in-None-clause-cells
returns-in_ok-at-in-None-clause-cells c = grind (arith, common_steps)
