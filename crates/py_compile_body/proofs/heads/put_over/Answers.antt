use Rattle.std.proofs.Common.{refl}
use Rattle.py_compile_expr.proofs.Turns.{then, the_number}
use Rattle.py_compile_body.proofs.Rows.{two_more}
use Rattle.py_compile_body.proofs.heads.put_over.Goals as goal

pub returns-clause-cells : goal.returns-clause-cells
returns-clause-cells c = then c.put-2.result _ _ _ _ _ _ c.put-2.ensures.cells c.in_ok-at.ensures.cells refl

pub returns-clause-place : goal.returns-clause-place
returns-clause-place c = the_number c.put-2.result _ _ c.put-2.ensures.place (two_more _ _ c.in_ok-at.ensures.place)
