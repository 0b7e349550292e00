use Rattle.std.proofs.Common.{◌∙◌, sym, ap, []}
use Rattle.py_compile_expr.proofs.Turns.{kept}
use Rattle.py_compile_expr.specs.Cells.{takes, put}
use Rattle.py_compile_expr.specs.CellView.{plain_guard}
use Rattle.py_compile_body.proofs.parts.put_name_of.Goals as goal

pub returns-clause-cells : goal.returns-clause-cells
returns-clause-cells c =
    let g = plain_guard c.args.guard in
    kept c.put.result _ _ _ _
    (ap (λ m. put g (takes m c.args.taken.now) []) (sym c.in_ok-of.ensures) ∙ ap (λ x. put g (takes c.in_ok-of.of x) []) (sym c.in_ok-taken.ensures)) c.put.ensures.cells
