use Rattle.std.proofs.lemmas.Grind.{common_steps}
use Rattle.std.proofs.Common.{arith}
use Rattle.py_compile_unit.specs.Lists.{plain_lists}
use Rattle.py_compile_unit.proofs.Errs.{if_err}
use Rattle.py_compile_unit.proofs.CellTurns.{lists_turn, instrs_turn}
use Rattle.py_compile_unit.proofs.numbering.numbered.Goals as goal

pub loop-cell-preserved : goal.loop-cell-preserved
loop-cell-preserved c = record {
  lists = lists_turn c.args.cells.now c.loop-cell.cell-index c.cell-item.result (plain_lists c.loop-cell.lists) _ _ c.loop-cell-test.true c.cell-item.is c.in_ok-instr.ensures.lists c.loop-cell.invariant.lists;
  instrs = instrs_turn c.args.cells.now c.loop-cell.cell-index c.cell-item.result (plain_lists c.loop-cell.lists) _ c.in_ok-instr.instr _ _ _ c.loop-cell-test.true c.cell-item.is c.in_ok-instr.ensures.instr c.in_ok-push.ensures.items c.loop-cell.invariant.lists c.loop-cell.invariant.instrs;
}

pub returns-in_err-instr-clause-instrs : goal.returns-in_err-instr-clause-instrs
returns-in_err-instr-clause-instrs c = if_err _ _ c.from_residual.ensures.0

pub returns-in_err-instr-clause-lists : goal.returns-in_err-instr-clause-lists
returns-in_err-instr-clause-lists c = if_err _ _ c.from_residual.ensures.0

pub returns-in_err-push-clause-instrs : goal.returns-in_err-push-clause-instrs
returns-in_err-push-clause-instrs c = if_err _ _ c.from_residual-in_err-push.ensures.0

pub returns-in_err-push-clause-lists : goal.returns-in_err-push-clause-lists
returns-in_err-push-clause-lists c = if_err _ _ c.from_residual-in_err-push.ensures.0

pub returns-clause-instrs : goal.returns-clause-instrs
returns-clause-instrs c = grind (arith, common_steps)

pub returns-clause-lists : goal.returns-clause-lists
returns-clause-lists c = grind (arith, common_steps)
