use Rattle.py_compile_unit.proofs.Errs.{if_err}
use Rattle.py_compile_unit.proofs.units.heading_of.Goals as goal

pub returns-in_err-defaults-clause-defaults : goal.returns-in_err-defaults-clause-defaults
returns-in_err-defaults-clause-defaults c = if_err _ _ c.from_residual.ensures.0

pub returns-in_err-defaults-clause-first : goal.returns-in_err-defaults-clause-first
returns-in_err-defaults-clause-first c = if_err _ _ c.from_residual.ensures.0

pub returns-in_err-defaults-clause-name : goal.returns-in_err-defaults-clause-name
returns-in_err-defaults-clause-name c = if_err _ _ c.from_residual.ensures.0

pub returns-in_err-defaults-clause-params : goal.returns-in_err-defaults-clause-params
returns-in_err-defaults-clause-params c = if_err _ _ c.from_residual.ensures.0

pub returns-in_err-name-clause-defaults : goal.returns-in_err-name-clause-defaults
returns-in_err-name-clause-defaults c = if_err _ _ c.from_residual-in_err-name.ensures.0

pub returns-in_err-name-clause-first : goal.returns-in_err-name-clause-first
returns-in_err-name-clause-first c = if_err _ _ c.from_residual-in_err-name.ensures.0

pub returns-in_err-name-clause-name : goal.returns-in_err-name-clause-name
returns-in_err-name-clause-name c = if_err _ _ c.from_residual-in_err-name.ensures.0

pub returns-in_err-name-clause-params : goal.returns-in_err-name-clause-params
returns-in_err-name-clause-params c = if_err _ _ c.from_residual-in_err-name.ensures.0

pub returns-in_err-params-clause-defaults : goal.returns-in_err-params-clause-defaults
returns-in_err-params-clause-defaults c = if_err _ _ c.from_residual-in_err-params.ensures.0

pub returns-in_err-params-clause-first : goal.returns-in_err-params-clause-first
returns-in_err-params-clause-first c = if_err _ _ c.from_residual-in_err-params.ensures.0

pub returns-in_err-params-clause-name : goal.returns-in_err-params-clause-name
returns-in_err-params-clause-name c = if_err _ _ c.from_residual-in_err-params.ensures.0

pub returns-in_err-params-clause-params : goal.returns-in_err-params-clause-params
returns-in_err-params-clause-params c = if_err _ _ c.from_residual-in_err-params.ensures.0
