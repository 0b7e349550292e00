use Rattle.std.proofs.Common.{◌∙◌, sym, ap}
use Rattle.py_compile_expr.proofs.Turns.{three, the_number}
use Rattle.py_compile.specs.Ways.{break_exit, continue_exit}
use Rattle.py_compile_body.specs.WaysView.{plain_ways}
use Rattle.py_compile_body.proofs.Rows.{three_more, three_instrs}
use Rattle.py_compile_body.proofs.parts.put_exits.Goals as goal

pub returns-clause-cells : goal.returns-clause-cells
returns-clause-cells c =
    let w = plain_ways c.args.ways in
    let next = sym c.in_ok-next.ensures in
    three c.put-3.result _ _ _ _ _ _ _ _ c.in_ok-at.ensures.cells c.in_ok-at-2.ensures.cells c.put-3.ensures.cells
    (three_instrs w.guard _ _ _ _ _ _ (ap (break_exit w.on_break) next ∙ sym c.break_exit-by_break.ensures) (ap (continue_exit w.on_continue) next ∙ sym c.continue_exit-by_continue.ensures) (sym c.return_exit.ensures))

pub returns-clause-place : goal.returns-clause-place
returns-clause-place c = the_number c.put-3.result _ _ c.put-3.ensures.place (three_more _ _ _ c.in_ok-at.ensures.place c.in_ok-at-2.ensures.place)
