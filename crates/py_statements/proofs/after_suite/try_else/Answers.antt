use Rattle.std.proofs.Common.{arith}
use Rattle.std.proofs.lemmas.Grind.{common_steps}
use Rattle.py_statements.proofs.after_suite.try_else.Goals as goal

pub returns-in_ok-else_wanted : goal.returns-in_ok-else_wanted
returns-in_ok-else_wanted c = grind (arith, common_steps)

pub returns-in_ok-tried : goal.returns-in_ok-tried
returns-in_ok-tried c = grind (arith, common_steps)
