use Rattle.std.proofs.Common.{ap, []}
use Rattle.std.specs.Prelude.{unwrap_or}
use Rattle.py_compile_expr.proofs.Turns.{kept}
use Rattle.py_compile_expr.specs.Cells.{store, put}
use Rattle.py_compile_expr.specs.CellView.{plain_guard}
use Rattle.py_compile_body.proofs.parts.put_alias.Goals as goal

pub returns-in-Some-clause-cells : goal.returns-in-Some-clause-cells
returns-in-Some-clause-cells c =
    kept c.put_store.result _ _ _ _ (ap (λ b. put (plain_guard c.args.guard) (store (unwrap_or b c.args.alias.now.name)) []) c.in-Some.is) c.put_store.ensures.cells

pub returns-in-None-clause-cells : goal.returns-in-None-clause-cells
returns-in-None-clause-cells c =
    kept c.put_store-in-None.result _ _ _ _ (ap (λ b. put (plain_guard c.args.guard) (store (unwrap_or b c.args.alias.now.name)) []) c.in-None.is) c.put_store-in-None.ensures.cells
