use Rattle.std.proofs.Common.{ap, sym, ◌∙◌}
use Rattle.std.specs.List.{fold, flat_map}
use Rattle.std.specs.Option.{option_to_list}
use Rattle.std.proofs.lemmas.List.Folds.{flat_map-map}
use Rattle.cov_data.specs.DataSet.{no_data, with_path}
use Rattle.cov_tables.specs.Fields.{row, text_at}
use Rattle.cov_tables.proofs.content.paths_only.Goals as goal

pub loop-cells-init : goal.loop-cells-init
loop-cells-init c =
    let lists = c.args.lists.now in
    ap (λ d. fold with_path d (flat_map (λ v. option_to_list (text_at (row v) 1)) lists)) c.new-data.ensures
    ∙ ap (fold with_path (no_data c.args.arcs)) (sym (flat_map-map (λ r. option_to_list (text_at r 1)) row lists))
