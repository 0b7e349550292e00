use Rattle.std.proofs.Common.{ap, sym, ◌∙◌, ◌+◌, ℤ, drop, List, Option}
use Rattle.std.specs.List.{flat_map}
use Rattle.std.specs.Ordering.{is_eq}
use Rattle.std.specs.Map.{lookup}
use Rattle.std.proofs.lemmas.List.Folds.{flat_map-map}
use Rattle.cov_tables.specs.Fields.{row}
use Rattle.cov_tables.specs.Hits.{spot_cmp, counts_with, only_count}
use Rattle.cov_tables.proofs.Counting.{in_all, in_all-row, drop_at}
use Rattle.cov_tables.specs.Kept.{kept_at}
use Rattle.cov_tables.specs.declared.cells.RowCells.{RowCells}
use Rattle.cov_tables.proofs.hits.Hits.of.Goals as goal

pub loop-cells-init : goal.loop-cells-init
loop-cells-init c = λ spot. ap (λ es. in_all (lookup (λ k. is_eq (spot_cmp spot k)) es) (flat_map (λ v. counts_with spot (row v)) c.args.lists.now)) c.new.ensures.empty
    ∙ sym (ap only_count (flat_map-map (counts_with spot) row c.args.lists.now))

pub loop-cells-preserved : goal.loop-cells-preserved
loop-cells-preserved c = λ spot.
    let lists = c.args.lists.now in
    let i = c.loop-cells.cells-index in
    let item = c.cells-item.result in
    let old = kept_at c.loop-cells.hits spot in
    let counts : RowCells → List (Option ℤ) = λ v. counts_with spot (row v) in
    let left = flat_map counts (drop (i + 1) lists) in
    ap (λ o. in_all o left) (c.in_ok-add_row.ensures spot)
    ∙ in_all-row old spot (row item) left
    ∙ ap (λ vs. in_all old (flat_map counts vs)) (sym (drop_at lists i item c.loop-cells-test.true c.cells-item.is))
    ∙ c.loop-cells.invariant spot
