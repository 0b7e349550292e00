use Rattle.std.proofs.lemmas.Grind.{common_steps}
use Rattle.std.proofs.Common.{arith}
use Rattle.py_parse_expr.proofs.expr_steps.after_target.Goals as goal

pub returns-then-not-begins : goal.returns-then-not-begins
returns-then-not-begins c = grind (arith, common_steps)
