use Rattle.std.proofs.Common.{arith}
use Rattle.std.proofs.lemmas.Grind.{common_steps}
use Rattle.py_statements.proofs.suite_of.SuiteOf.over_suite.Goals as goal

pub returns-in_ok-kind-in-Arm : goal.returns-in_ok-kind-in-Arm
returns-in_ok-kind-in-Arm c = grind (arith, common_steps)

pub returns-in-Case : goal.returns-in-Case
returns-in-Case c = grind (arith, common_steps)
