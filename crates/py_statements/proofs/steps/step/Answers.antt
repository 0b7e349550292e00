use Rattle.std.proofs.Common.{arith}
use Rattle.std.proofs.lemmas.Grind.{common_steps}
use Rattle.py_statements.proofs.steps.step.Goals as goal

pub returns-then-header : goal.returns-then-header
returns-then-header c = grind (arith, common_steps)

pub returns-else-header : goal.returns-else-header
returns-else-header c = grind (arith, common_steps)
