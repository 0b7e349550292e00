use Rattle.std.proofs.Common.{take}
use Rattle.std.specs.List.{AllZip}
use Rattle.cov_data.specs.Rows.{lent_view}
use Rattle.cov_sql.specs.SavedData.{lent_texts, IsSavedRow}
use Rattle.cov_sql.proofs.saved.numbered.Given as goal

abbrev pub invariant-loop-at : goal.invariant-loop-at
invariant-loop-at l = AllZip (λ r s. IsSavedRow (lent_texts l.paths) (lent_texts l.contexts) (lent_view r) s) (take l.at l.rows) l.all.items
