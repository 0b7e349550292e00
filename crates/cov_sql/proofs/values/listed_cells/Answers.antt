use Rattle.std.proofs.Common.{subst}
use Rattle.sqlite_value.specs.declared.value.Value.TheVariants.{Null}
use Rattle.cov_sql.specs.Cells.{IsCell}
use Rattle.cov_sql.proofs.CellLemmas.{zip-next}
use Rattle.cov_sql.proofs.values.listed_cells.Goals as goal

pub loop-at-preserved : goal.loop-at-preserved
loop-at-preserved c =
    rw c.in_ok-push.ensures.items
    (zip-next IsCell c.args.row.now c.loop-at.at c.loop-at.cells.items Null c.in_ok-cell_of.field-0 c.in-Ok.ensures.ok.0 c.loop-at.invariant
    (subst (λ v. IsCell v c.in_ok-cell_of.field-0) c.in-Ok.ensures.ok.1 c.in_ok-cell_of.ensures))
