use Rattle.std.proofs.Common.{arith}
use Rattle.py_compile_expr.proofs.Turns.{the_number}
use Rattle.py_compile_body.proofs.places.case_next.Goals as goal

pub returns : goal.returns
returns c =
    let one = c.in_ok-begin.ensures _ c.case_head_size.ensures in
    the_number c.after-2.result _ _ (c.after-2.ensures _ c.suite_size.ensures) (omega (arith, one))
