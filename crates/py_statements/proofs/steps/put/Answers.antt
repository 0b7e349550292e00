use Rattle.std.proofs.Common.{arith}
use Rattle.std.proofs.lemmas.Grind.{common_steps}
use Rattle.py_statements.proofs.steps.put.Goals as goal

pub returns : goal.returns
returns c = grind (arith, common_steps)

pub returns-then-not-is_whole : goal.returns-then-not-is_whole
returns-then-not-is_whole c = grind (arith, common_steps)
