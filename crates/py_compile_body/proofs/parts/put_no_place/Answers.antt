use Rattle.std.proofs.Common.{refl}
use Rattle.py_compile_expr.proofs.Turns.{four, the_number}
use Rattle.py_compile_body.proofs.Rows.{four_more}
use Rattle.py_compile_body.proofs.parts.put_no_place.Goals as goal

pub returns-clause-cells : goal.returns-clause-cells
returns-clause-cells c =
    four c.put-4.result _ _ _ _ _ _ _ _ _ _ c.in_ok-at.ensures.cells c.in_ok-at-2.ensures.cells c.in_ok-at-3.ensures.cells c.put-4.ensures.cells refl

pub returns-clause-place : goal.returns-clause-place
returns-clause-place c =
    the_number c.put-4.result _ _ c.put-4.ensures.place (four_more _ _ _ _ c.in_ok-at.ensures.place c.in_ok-at-2.ensures.place c.in_ok-at-3.ensures.place)
