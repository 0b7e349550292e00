use Rattle.std.proofs.Common.{arith}
use Rattle.std.proofs.lemmas.Grind.{common_steps}
use Rattle.py_parse_expr.proofs.expr_frames.exprs_rest.Goals as goal

pub returns-in_ok-tuple-in_default : goal.returns-in_ok-tuple-in_default
returns-in_ok-tuple-in_default c = grind (arith, common_steps)
