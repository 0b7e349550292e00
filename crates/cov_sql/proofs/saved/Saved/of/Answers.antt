use Rattle.std.proofs.Common.{rules, ◌≡◌, map, string_bytes, ap, sym, subst, ◌∙◌}
use Rattle.std.specs.List.{AllZip}
use Rattle.cov_data.specs.Rows.{lent_view, rows_of, paths_of}
use Rattle.cov_sql.specs.Blobs.{AreBitsOf}
use Rattle.cov_sql.specs.Groups.{AreLines}
use Rattle.cov_sql.specs.SavedData.{lent_texts, contexts_in, IsSavedRow}
use Rattle.cov_sql.proofs.KeptOrder.{lines_kept}
use Rattle.cov_sql.proofs.Contexts.{rows_kept, rows_as}
use Rattle.cov_sql.proofs.saved.Saved.of.Goals as goal

pub returns : goal.returns
returns c =
    let d = c.args.content.now in
    let given = c.in_ok-given.given.items in
    let labels = lent_texts c.in_ok-labels.labels.items in
    let paths = map string_bytes c.in_ok-paths.paths.items in
    let rows_are : map lent_view given ≡ rows_of d = c.in_ok-given.ensures in
    let paths_are : paths ≡ paths_of d = c.in_ok-paths.ensures in
    let are : labels ≡ contexts_in (map lent_view given) = c.in_ok-labels.ensures ∙ ap (λ rs. contexts_in (map lent_view rs)) c.as_slice-listed.ensures.value in
    let flag_is : c.is_arcs-arcs.result ≡ d.arcs = search rules in
    let told : AllZip (λ r s. IsSavedRow paths labels (lent_view r) s) given c.in_ok-rows.rows.items =
    subst (λ ps. AllZip (λ r s. IsSavedRow ps labels (lent_view r) s) given c.in_ok-rows.rows.items) (ap (map string_bytes) c.deref.ensures.value)
    (rows_as (map string_bytes c.deref.result.now) labels (lent_texts c.deref-2.result.now) given c.as_slice-listed.result.now c.in_ok-rows.rows.items (ap lent_texts c.deref-2.ensures.value) c.as_slice-listed.ensures.value c.in_ok-rows.ensures) in
    let kept : AllZip (IsSavedRow (paths_of d) (contexts_in (rows_of d))) (rows_of d) c.in_ok-rows.rows.items = rows_kept d paths labels given c.in_ok-rows.rows.items paths_are rows_are are told in
    record {
      flag = flag_is;
      paths = paths_are;
      contexts = c.in_ok-contexts.ensures ∙ ap lent_texts c.deref-3.ensures.value ∙ are ∙ ap contexts_in rows_are;
      rows = kept;
      bits = search rules;
      blobs = λ lines. subst (λ rs. AreBitsOf rs c.in_ok-bits.bits.items) c.deref-4.ensures.value
          (c.in_ok-bits.ensures.all (flag_is ∙ lines) (subst AreLines (sym c.deref-4.ensures.value) (lines_kept d c.in_ok-rows.rows.items c.is_arcs-arcs.ensures.sound lines kept)));
    }
