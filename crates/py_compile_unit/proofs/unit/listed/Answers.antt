use Rattle.py_compile_unit.proofs.Errs.{if_err}
use Rattle.py_compile_unit.proofs.unit.listed.Goals as goal

pub returns-in_err-locals-clause-locals : goal.returns-in_err-locals-clause-locals
returns-in_err-locals-clause-locals c = if_err _ _ c.from_residual.ensures.0

pub returns-in_err-locals-clause-names : goal.returns-in_err-locals-clause-names
returns-in_err-locals-clause-names c = if_err _ _ c.from_residual.ensures.0

pub returns-in_err-locals-clause-constants : goal.returns-in_err-locals-clause-constants
returns-in_err-locals-clause-constants c = if_err _ _ c.from_residual.ensures.0

pub returns-in_err-locals-clause-lines : goal.returns-in_err-locals-clause-lines
returns-in_err-locals-clause-lines c = if_err _ _ c.from_residual.ensures.0

pub returns-in_err-names-clause-locals : goal.returns-in_err-names-clause-locals
returns-in_err-names-clause-locals c = if_err _ _ c.from_residual-in_err-names.ensures.0

pub returns-in_err-names-clause-names : goal.returns-in_err-names-clause-names
returns-in_err-names-clause-names c = if_err _ _ c.from_residual-in_err-names.ensures.0

pub returns-in_err-names-clause-constants : goal.returns-in_err-names-clause-constants
returns-in_err-names-clause-constants c = if_err _ _ c.from_residual-in_err-names.ensures.0

pub returns-in_err-names-clause-lines : goal.returns-in_err-names-clause-lines
returns-in_err-names-clause-lines c = if_err _ _ c.from_residual-in_err-names.ensures.0

pub returns-in_err-constants-clause-locals : goal.returns-in_err-constants-clause-locals
returns-in_err-constants-clause-locals c = if_err _ _ c.from_residual-in_err-constants.ensures.0

pub returns-in_err-constants-clause-names : goal.returns-in_err-constants-clause-names
returns-in_err-constants-clause-names c = if_err _ _ c.from_residual-in_err-constants.ensures.0

pub returns-in_err-constants-clause-constants : goal.returns-in_err-constants-clause-constants
returns-in_err-constants-clause-constants c = if_err _ _ c.from_residual-in_err-constants.ensures.0

pub returns-in_err-constants-clause-lines : goal.returns-in_err-constants-clause-lines
returns-in_err-constants-clause-lines c = if_err _ _ c.from_residual-in_err-constants.ensures.0

pub returns-in_err-lines-clause-locals : goal.returns-in_err-lines-clause-locals
returns-in_err-lines-clause-locals c = if_err _ _ c.from_residual-in_err-lines.ensures.0

pub returns-in_err-lines-clause-names : goal.returns-in_err-lines-clause-names
returns-in_err-lines-clause-names c = if_err _ _ c.from_residual-in_err-lines.ensures.0

pub returns-in_err-lines-clause-constants : goal.returns-in_err-lines-clause-constants
returns-in_err-lines-clause-constants c = if_err _ _ c.from_residual-in_err-lines.ensures.0

pub returns-in_err-lines-clause-lines : goal.returns-in_err-lines-clause-lines
returns-in_err-lines-clause-lines c = if_err _ _ c.from_residual-in_err-lines.ensures.0

pub returns-clause-locals : goal.returns-clause-locals
returns-clause-locals c = c.in_ok-locals.ensures

pub returns-clause-names : goal.returns-clause-names
returns-clause-names c = c.in_ok-names.ensures

pub returns-clause-constants : goal.returns-clause-constants
returns-clause-constants c = c.in_ok-constants.ensures

pub returns-clause-lines : goal.returns-clause-lines
returns-clause-lines c = c.in_ok-lines.ensures
