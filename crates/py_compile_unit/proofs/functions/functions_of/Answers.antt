use Rattle.std.proofs.lemmas.Grind.{common_steps}
use Rattle.std.proofs.Common.{arith}
use Rattle.py_compile_unit.proofs.Errs.{if_err}
use Rattle.py_compile_unit.proofs.functions.functions_of.Goals as goal

pub returns-in_err-statements : goal.returns-in_err-statements
returns-in_err-statements c = if_err _ _ c.from_residual.ensures.0

pub returns : goal.returns
returns c = grind (arith, common_steps)
