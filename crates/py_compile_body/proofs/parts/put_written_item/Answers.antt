use Rattle.std.proofs.Common.{refl}
use Rattle.py_compile_expr.proofs.Turns.{three, the_number}
use Rattle.py_compile_body.proofs.Rows.{three_more}
use Rattle.py_compile_body.proofs.parts.put_written_item.Goals as goal

pub returns-clause-cells : goal.returns-clause-cells
returns-clause-cells c = three c.put-3.result _ _ _ _ _ _ _ _ c.in_ok-at.ensures.cells c.in_ok-at-2.ensures.cells c.put-3.ensures.cells refl

pub returns-clause-place : goal.returns-clause-place
returns-clause-place c = the_number c.put-3.result _ _ c.put-3.ensures.place (three_more _ _ _ c.in_ok-at.ensures.place c.in_ok-at-2.ensures.place)
