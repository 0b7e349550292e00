use Rattle.std.proofs.Common.{arith}
use Rattle.py_compile_expr.proofs.Turns.{the_number}
use Rattle.py_compile_body.proofs.places.if_end.Goals as goal

pub returns : goal.returns
returns c =
    let one = c.in_ok-rest.ensures _ c.arms_size.ensures in
    the_number c.after-2.result _ _ (c.after-2.ensures _ c.opt_size.ensures) (omega (arith, one))
