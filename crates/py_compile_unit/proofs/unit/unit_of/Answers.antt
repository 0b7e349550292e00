use Rattle.std.proofs.lemmas.Grind.{common_steps}
use Rattle.std.proofs.Common.{arith}
use Rattle.py_compile_unit.proofs.Errs.{if_err}
use Rattle.py_compile_unit.proofs.unit.unit_of.Goals as goal

pub returns-in_err-own : goal.returns-in_err-own
returns-in_err-own c = if_err _ _ c.from_residual.ensures.0

pub returns-in_err-instrs : goal.returns-in_err-instrs
returns-in_err-instrs c = if_err _ _ c.from_residual-in_err-instrs.ensures.0

pub returns-in_err-handlers : goal.returns-in_err-handlers
returns-in_err-handlers c = if_err _ _ c.from_residual-in_err-handlers.ensures.0

pub returns-in_err-named : goal.returns-in_err-named
returns-in_err-named c = if_err _ _ c.from_residual-in_err-named.ensures.0

pub returns : goal.returns
returns c = grind (arith, common_steps)
