use Rattle.std.proofs.Common.{◌<◌, ℕ, false, map, ap, sym, subst, ◌∙◌}
use Rattle.std.specs.List.{flat_map}
use Rattle.cov_data.specs.DataSet.{no_data}
use Rattle.cov_tables.specs.Fields.{rows}
use Rattle.cov_tables.specs.Entries.{entry_view, entry_cmp}
use Rattle.cov_tables.specs.Hits.{counts_at}
use Rattle.cov_tables.specs.Joins.{texts_of, bits_key, joined_if}
use Rattle.cov_tables.specs.Order.{in_order}
use Rattle.cov_tables.specs.Content.{is_bad, rows_said, paths_in, paths_only, read_entries}
use Rattle.cov_tables.specs.Kept.{texts_at, count_at}
use Rattle.cov_tables.proofs.Whole.{paths_kind, counts_any, bits_whole}
use Rattle.cov_tables.proofs.content.bits_content.Goals as goal

pub add_entries-requires : goal.add_entries-requires
add_entries-requires c = λ s. subst (λ (n : ℕ). 0 < n) (sym (c.in_ok-hits.ensures s)) (counts_any (counts_at (rows c.args.given.hits.items) s))

pub returns : goal.returns
returns c =
    let given = c.args.given in
    let files = texts_at c.in_ok-files.files in
    let contexts = texts_at c.in_ok-contexts.contexts in
    let counts = count_at c.in_ok-hits.hits in
    let kind = ap (λ d. d.arcs) c.in_ok-whole.ensures ∙ paths_kind (no_data false) (paths_in (rows c.deref-4.result.now)) in
    c.unless_bad.ensures ∙ c.in_ok-bad.ensures
    ∙ ap (λ b. read_entries (is_bad b) (rows_said b counts) (map entry_view c.deref-5.result.now) c.in_ok-whole.whole) kind
    ∙ bits_whole (rows given.file.items) (rows given.context.items) (rows given.line_bits.items) (rows given.hits.items) files contexts counts
    (λ id. c.in_ok-files.ensures id ∙ ap (λ vs. texts_of (rows vs) id) c.deref.ensures.value)
    (λ id. c.in_ok-contexts.ensures id ∙ ap (λ vs. texts_of (rows vs) id) c.deref-2.ensures.value)
    c.in_ok-hits.ensures
    (map entry_view c.deref-5.result.now) c.in_ok-whole.whole
    (ap (map entry_view) c.deref-5.ensures.value ∙ c.in_ok-entries.ensures ∙ ap (λ vs. in_order entry_cmp (flat_map (λ r. joined_if (bits_key r) files contexts) (rows vs))) c.deref-3.ensures.value)
    (c.in_ok-whole.ensures ∙ ap (λ vs. paths_only false (rows vs)) c.deref-4.ensures.value)
