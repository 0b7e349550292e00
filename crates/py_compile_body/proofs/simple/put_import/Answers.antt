use Rattle.std.proofs.Common.{refl}
use Rattle.py_compile_expr.proofs.Turns.{then, the_number}
use Rattle.py_compile_body.proofs.Rows.{after_mark}
use Rattle.py_compile_body.proofs.simple.put_import.Goals as goal

pub returns-clause-cells : goal.returns-clause-cells
returns-clause-cells c = then c.put_imported.result _ _ _ _ _ _ c.put_imported.ensures.cells c.in_ok-at.ensures.cells refl

pub returns-clause-place : goal.returns-clause-place
returns-clause-place c = the_number c.put_imported.result _ _ c.put_imported.ensures.place (after_mark _ _ _ c.in_ok-at.ensures.place)
