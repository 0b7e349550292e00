use Rattle.std.proofs.Common.{map, sym, ap, ◌∙◌, arith}
use Rattle.std.specs.List.{fold}
use Rattle.std.specs.BTreeSet.{insert_key}
use Rattle.cov_data.specs.DataSet.{text_cmp}
use Rattle.cov_data.specs.Rows.{lent_view}
use Rattle.cov_sql.specs.SavedData.{lent_texts, contexts_in}
use Rattle.cov_sql.proofs.Contexts.{context_of, contexts_are, contexts_next, drop_past, as_listed}
use Rattle.cov_sql.proofs.saved.contexts_of.Goals as goal

pub loop-at-init : goal.loop-at-init
loop-at-init c = ap (λ ks. fold (insert_key text_cmp) (lent_texts ks) (map context_of c.args.rows.now)) c.new-contexts.ensures.empty ∙ contexts_are c.args.rows.now

pub loop-at-preserved : goal.loop-at-preserved
loop-at-preserved c = contexts_next c.args.rows.now c.loop-at.at _ c.loop-at.contexts.keys _ _ (omega arith) c.in_ok-insert.ensures.keys c.loop-at.invariant

pub returns : goal.returns
returns c =
    let rows = c.args.rows.now in
    let keys = c.loop-at.contexts.keys in
    let all = ap (λ xs. fold (insert_key text_cmp) (lent_texts keys) (map context_of xs)) (sym (drop_past rows c.loop-at.at (omega arith))) ∙ c.loop-at.invariant in
    as_listed c.listed.result keys (contexts_in (map lent_view rows)) c.listed.ensures all
