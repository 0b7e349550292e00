use Rattle.std.proofs.Common.{refl}
use Rattle.py_compile_unit.proofs.Errs.{if_err}
use Rattle.py_compile_unit.proofs.FunctionTurns.{one_more}
use Rattle.py_compile_unit.proofs.functions.function.Goals as goal

pub returns : goal.returns
returns c = one_more _ _ _ c.args.line c.args.name.now c.args.params.now c.args.defaults.now c.args.body.now _ c.in_ok-push.ensures.items refl c.deref.ensures.value

pub returns-in_err-push : goal.returns-in_err-push
returns-in_err-push c = if_err _ _ c.from_residual.ensures.0
