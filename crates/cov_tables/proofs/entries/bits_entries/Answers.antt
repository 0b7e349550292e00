use Rattle.std.proofs.Common.{ap, sym, ◌∙◌, ◌++◌, map}
use Rattle.std.specs.List.{flat_map}
use Rattle.std.proofs.lemmas.List.Folds.{flat_map-map}
use Rattle.cov_tables.specs.Fields.{row}
use Rattle.cov_tables.specs.Entries.{entry_view}
use Rattle.cov_tables.specs.Joins.{bits_key, joined_if}
use Rattle.cov_tables.specs.Kept.{texts_at}
use Rattle.cov_tables.proofs.entries.bits_entries.Goals as goal

pub loop-cells-init : goal.loop-cells-init
loop-cells-init c =
    let lists = c.args.lists.now in
    ap (λ es. map entry_view es ++ flat_map (λ v. joined_if (bits_key (row v)) (texts_at c.args.files.now) (texts_at c.args.contexts.now)) lists) c.new-sets.ensures.items
    ∙ sym (flat_map-map (λ r. joined_if (bits_key r) (texts_at c.args.files.now) (texts_at c.args.contexts.now)) row lists)
