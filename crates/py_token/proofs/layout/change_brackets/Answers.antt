use Rattle.std.proofs.lemmas.Grind.{common_steps}
use Rattle.std.proofs.Common.{arith}
use Rattle.py_token.proofs.layout.change_brackets.Goals as goal

pub returns-in_ok-push-in-Opening : goal.returns-in_ok-push-in-Opening
returns-in_ok-push-in-Opening c = grind (arith, common_steps)
