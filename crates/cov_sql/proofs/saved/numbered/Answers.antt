use Rattle.std.proofs.Common.{arith}
use Rattle.cov_data.specs.Rows.{lent_view}
use Rattle.cov_sql.specs.SavedData.{lent_texts, IsSavedRow}
use Rattle.cov_sql.proofs.CellLemmas.{zip-next, zip-whole}
use Rattle.cov_sql.proofs.saved.numbered.Goals as goal

pub loop-at-preserved : goal.loop-at-preserved
loop-at-preserved c =
    let ps = lent_texts c.args.paths.now in
    let cs = lent_texts c.args.contexts.now in
    rw c.in_ok-push.ensures.items
    (zip-next (λ r s. IsSavedRow ps cs (lent_view r) s) c.args.rows.now c.loop-at.at c.loop-at.all.items _ c.in-Some.saved (omega arith) c.loop-at.invariant c.in-Some.ensures)

pub returns : goal.returns
returns c =
    let ps = lent_texts c.args.paths.now in
    let cs = lent_texts c.args.contexts.now in
    zip-whole (λ r s. IsSavedRow ps cs (lent_view r) s) c.args.rows.now c.loop-at.at c.loop-at.all.items (omega arith) c.loop-at.invariant
