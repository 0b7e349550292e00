use Rattle.std.proofs.Common.{◌≡◌, ◌∷◌, [], cond, Some, ap, sym, ◌∙◌}
use Rattle.std.specs.Ordering.{is_eq}
use Rattle.std.proofs.lemmas.Result.{on_ok_weaker}
use Rattle.cov_tables.specs.Fields.{row, whole_at}
use Rattle.cov_tables.specs.Hits.{spot_at, spot_cmp, is_spot, counted}
use Rattle.cov_tables.specs.Kept.{kept_at, with_count, with_counts}
use Rattle.cov_tables.proofs.Counting.{kept_with}
use Rattle.cov_tables.proofs.hits.Hits.add_row.Goals as goal

pub returns-in-Some : goal.returns-in-Some
returns-in-Some c =
    let r = row c.args.cells.now in
    let s = c.in-Some.spot in
    let old = kept_at c.args.self.now in
    let count : c.counted.result ≡ counted (whole_at r 4) = c.counted.ensures ∙ ap counted c.whole_at.ensures in
    let spot : spot_at r ≡ Some s = sym c.spot_at.ensures ∙ c.in-Some.is in
    on_ok_weaker c.add.result (λ h q. h q
    ∙ ap (λ n. cond (is_eq (spot_cmp q s)) (Some (with_count (old s) n)) (old q)) count
    ∙ kept_with old q s (whole_at r 4)
    ∙ ap (λ o. with_counts (old q) (cond (is_spot q o) (whole_at r 4 ∷ []) [])) (sym spot)) c.add.ensures
