use Rattle.std.proofs.Common.{arith, map, refl}
use Rattle.py_compile_expr.proofs.Turns.{none_added}
use Rattle.py_compile_unit.specs.Defs.{definition_of, line_of}
use Rattle.py_compile_unit.proofs.Errs.{if_err}
use Rattle.py_compile_unit.proofs.FunctionTurns.{line_turn, lines_first}
use Rattle.py_compile_unit.proofs.functions.lines_of.Goals as goal

pub loop-def-init : goal.loop-def-init
loop-def-init c = lines_first _ c.args.defs.now c.new-lines.ensures.items

pub loop-def-preserved : goal.loop-def-preserved
loop-def-preserved c = line_turn _ _ _ c.args.defs.now c.loop-def.def-index c.def-item.result c.loop-def-test.true c.def-item.is c.in_ok-push.ensures.items c.loop-def.invariant

pub loop-def-smaller : goal.loop-def-smaller
loop-def-smaller c = omega arith

pub returns : goal.returns
returns c = none_added (λ ds. map line_of (map definition_of ds)) refl _ _ _ _ c.loop-def-test.false c.loop-def.invariant

pub returns-in_err-push : goal.returns-in_err-push
returns-in_err-push c = if_err _ _ c.from_residual.ensures.0
