use Rattle.std.proofs.Common.{◌≡◌, map, drop}
use Rattle.std.specs.List.{fold}
use Rattle.std.specs.BTreeSet.{insert_key}
use Rattle.cov_data.specs.DataSet.{text_cmp}
use Rattle.cov_data.specs.Rows.{lent_view}
use Rattle.cov_sql.specs.SavedData.{lent_texts, contexts_in}
use Rattle.cov_sql.proofs.Contexts.{context_of}
use Rattle.cov_sql.proofs.saved.contexts_of.Given as goal

abbrev pub invariant-loop-at : goal.invariant-loop-at
invariant-loop-at l = fold (insert_key text_cmp) (lent_texts l.contexts.keys) (map context_of (drop l.at l.rows)) ≡ contexts_in (map lent_view l.rows)
