use Rattle.std.proofs.Common.{arith}
use Rattle.std.proofs.lemmas.Grind.{common_steps}
use Rattle.py_statements.proofs.places.Listed.with_name.Goals as goal

pub returns-in_ok-push-in-Froms : goal.returns-in_ok-push-in-Froms
returns-in_ok-push-in-Froms c = grind (arith, common_steps)

pub returns-in_ok-push-in-Imports : goal.returns-in_ok-push-in-Imports
returns-in_ok-push-in-Imports c = grind (arith, common_steps)
