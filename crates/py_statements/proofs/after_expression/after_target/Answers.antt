use Rattle.std.proofs.Common.{arith}
use Rattle.std.proofs.lemmas.Grind.{common_steps}
use Rattle.py_statements.proofs.after_expression.after_target.Goals as goal

pub returns : goal.returns
returns c = grind (arith, common_steps)

pub returns-then-not-is_target : goal.returns-then-not-is_target
returns-then-not-is_target c = grind (arith, common_steps)
