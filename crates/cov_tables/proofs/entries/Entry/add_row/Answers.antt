use Rattle.std.proofs.Common.{◌≡◌, ℕ, ℤ, ap, ◌∙◌, sym, subst, w32, to_z, of_z}
use Rattle.std.proofs.lemmas.Int.{to_z-of_z}
use Rattle.cov_data.specs.DataSet.{IsInRange}
use Rattle.cov_tables.specs.Kept.{count_at}
use Rattle.cov_tables.proofs.entries.Entry.add_row.Goals as goal

pub add-requires : goal.add-requires
add-requires c =
    let arcs = c.args.«data».now.arcs in
    let count = c.count-count.result in
    let from = c.args.from in
    let to = c.args.to in
    let entry = c.args.self.now in
    let told : count ≡ count_at c.args.hits.now (record { file_id = entry.file_id; context_id = entry.context_id; from = from; to = to }) = c.count-count.ensures ∙ ap (count_at c.args.hits.now) c.spot-spot.ensures
    ∙ (λ i. count_at c.args.hits.now (record { file_id = entry.file_id; context_id = entry.context_id; from = to_z-of_z w32 from c.ranges.from i; to = to_z-of_z w32 to c.ranges.to i })) in
    subst (λ (z : ℤ). IsInRange arcs z (to_z w32 (of_z w32 to)) count) (sym (to_z-of_z w32 from c.ranges.from))
    (subst (λ (z : ℤ). IsInRange arcs from z count) (sym (to_z-of_z w32 to c.ranges.to))
    (subst (λ (n : ℕ). IsInRange arcs from to n) (sym told) c.requires))
