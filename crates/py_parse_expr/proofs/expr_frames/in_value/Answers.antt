use Rattle.std.proofs.lemmas.Grind.{common_steps}
use Rattle.std.proofs.Common.{arith}
use Rattle.py_parse_expr.proofs.expr_frames.in_value.Goals as goal

pub returns-in_ok-whole-in-Symbol-RightBrace : goal.returns-in_ok-whole-in-Symbol-RightBrace
returns-in_ok-whole-in-Symbol-RightBrace c = grind (arith, common_steps)
