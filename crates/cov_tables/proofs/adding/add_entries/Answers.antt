use Rattle.std.proofs.Common.{◌≡◌, ◌+◌, map, drop, length, refl, ap, sym, ◌∙◌, arith}
use Rattle.std.proofs.lemmas.Option.{same_Some, slice_get_read}
use Rattle.std.specs.List.{fold, flat_map}
use Rattle.cov_data.specs.Rows.{with_row}
use Rattle.cov_tables.specs.Entries.{entry_view}
use Rattle.cov_tables.specs.Content.{is_bad, rows_said}
use Rattle.cov_tables.specs.Kept.{count_at}
use Rattle.cov_tables.proofs.Whole.{rows_kind, left_on, added_on}
use Rattle.cov_tables.proofs.adding.add_entries.Goals as goal

pub loop-at-preserved : goal.loop-at-preserved
loop-at-preserved c =
    let entries = c.args.entries.now in
    let arcs = c.args.«data».now.arcs in
    let i = c.loop-at.at in
    let first = c.index-entries-at.result in
    let x = c.index-entries-at-in-loop-at.result in
    let is = c.index-entries-at-in-loop-at.is in
    let one : first ≡ x = same_Some first x (sym (slice_get_read entries (length entries) i first refl (omega arith) c.index-entries-at.is) ∙ slice_get_read entries (length entries) i x refl (omega arith) is) in
    let rows = rows_said arcs (count_at c.args.hits.now) in
    let old = c.loop-at.«data» in
    let same = c.loop-at.invariant.kind in
    let more = c.in_ok-add_rows.ensures ∙ ap (λ b. fold with_row old (rows_said b (count_at c.args.hits.now) (entry_view x))) same in
    record {
      left = left_on (is_bad arcs) rows entries i x (omega arith) is (ap (λ b. is_bad b (entry_view x)) (sym c.is_arcs-arcs.ensures.flag) ∙ ap (λ e. is_bad c.is_arcs-arcs.result (entry_view e)) (sym one) ∙ sym c.is_bad.ensures ∙ c.if-is_bad.false) ∙ c.loop-at.invariant.left;
      added = ap (λ d. fold with_row d (flat_map rows (map entry_view (drop (i + 1) entries)))) more ∙ added_on (is_bad arcs) rows entries i x (omega arith) is old ∙ c.loop-at.invariant.added;
      kind = ap (λ d. d.arcs) more ∙ rows_kind old (rows (entry_view x)) ∙ same;
    }
