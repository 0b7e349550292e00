use Rattle.std.proofs.lemmas.Grind.{common_steps}
use Rattle.std.proofs.Common.{arith}
use Rattle.py_parse_expr.proofs.expr_chains.constant.Goals as goal

pub returns-in_ok-with-in-Ok : goal.returns-in_ok-with-in-Ok
returns-in_ok-with-in-Ok c = grind (arith, common_steps)
