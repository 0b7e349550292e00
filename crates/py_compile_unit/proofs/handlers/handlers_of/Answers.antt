use Rattle.std.proofs.lemmas.Grind.{common_steps}
use Rattle.std.proofs.Common.{ap, ◌∙◌, ◌++◌, arith}
use Rattle.py_compile_expr.specs.CellView.{plain_guard}
use Rattle.py_compile.specs.Units.{ranges}
use Rattle.py_compile_unit.proofs.CellTurns.{ranges_turn}
use Rattle.py_compile_unit.proofs.handlers.handlers_of.Goals as goal

pub loop-cell-preserved : goal.loop-cell-preserved
loop-cell-preserved c =
    ranges_turn c.args.cells.now c.loop-cell.cell-index c.cell-item.result _ _ _ c.loop-cell-test.true c.cell-item.is
    (ranges c.loop-cell.range.from (plain_guard c.loop-cell.range.guard) c.loop-cell.at) (ranges c.in_ok-range.range.from (plain_guard c.in_ok-range.range.guard) c.in_ok-next.next)
    (λ op cs.
    ap (λ n. c.continued.new.handlers.items ++ ranges c.in_ok-range.range.from (plain_guard c.in_ok-range.range.guard) n cs) c.in_ok-next.ensures
    ∙ c.in_ok-range.ensures op cs) c.loop-cell.invariant

pub returns : goal.returns
returns c = grind (arith, common_steps)
