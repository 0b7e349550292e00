use Rattle.std.proofs.lemmas.Grind.{common_steps}
use Rattle.std.proofs.Common.{arith}
use Rattle.py_parse_expr.proofs.expr_frames.index_first.Goals as goal

pub returns-in_ok-items-in-Symbol-Comma : goal.returns-in_ok-items-in-Symbol-Comma
returns-in_ok-items-in-Symbol-Comma c = grind (arith, common_steps)
