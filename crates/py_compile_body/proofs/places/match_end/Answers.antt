use Rattle.std.proofs.Common.{arith}
use Rattle.py_compile_expr.proofs.Turns.{the_number}
use Rattle.py_compile_body.proofs.places.match_end.Goals as goal

pub returns : goal.returns
returns c =
    let one = c.in_ok-first.ensures _ c.expr_size.ensures in
    the_number c.after-2.result _ _ (c.after-2.ensures _ c.cases_size.ensures) (omega (arith, one))
