use Rattle.std.proofs.Common.{sym, ap, []}
use Rattle.py_compile_expr.proofs.Turns.{kept}
use Rattle.py_compile_expr.specs.Cells.{store, put}
use Rattle.py_compile_expr.specs.CellView.{plain_guard}
use Rattle.py_compile_body.proofs.parts.put_store.Goals as goal

pub returns-clause-cells : goal.returns-clause-cells
returns-clause-cells c =
    kept c.put.result _ _ _ _ (ap (λ x. put (plain_guard c.args.guard) (store x) []) (sym c.in_ok-variable.ensures)) c.put.ensures.cells
