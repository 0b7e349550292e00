use Rattle.std.proofs.Common.{refl, ap, ◌+◌}
use Rattle.py_compile_expr.proofs.Turns.{then, the_number}
use Rattle.py_compile_body.proofs.heads.put_arm_head.Goals as goal

pub returns-clause-cells : goal.returns-clause-cells
returns-clause-cells c = then c.put.result _ _ _ _ _ _ c.put.ensures.cells c.in_ok-at.ensures.cells refl

pub returns-clause-place : goal.returns-clause-place
returns-clause-place c = the_number c.put.result _ _ c.put.ensures.place (ap (λ n. n + 1) c.in_ok-at.ensures.place)
