use Rattle.std.proofs.Common.{refl}
use Rattle.py_compile_expr.proofs.Turns.{three, the_number}
use Rattle.py_compile_body.proofs.Rows.{after_module}
use Rattle.py_compile_body.proofs.simple.put_from.Goals as goal

pub returns-clause-cells : goal.returns-clause-cells
returns-clause-cells c = three c.put_taken.result _ _ _ _ _ _ _ _ c.in_ok-at.ensures.cells c.in_ok-at-2.ensures.cells c.put_taken.ensures.cells refl

pub returns-clause-place : goal.returns-clause-place
returns-clause-place c = the_number c.put_taken.result _ _ c.put_taken.ensures.place (after_module _ _ _ _ c.in_ok-at.ensures.place c.in_ok-at-2.ensures.place)
