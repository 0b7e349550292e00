use Rattle.std.proofs.Common.{ap, sym, ◌∙◌, ◌++◌}
use Rattle.std.specs.List.{flat_map}
use Rattle.std.specs.Ordering.{is_eq, int_cmp}
use Rattle.std.specs.Map.{lookup}
use Rattle.std.proofs.lemmas.List.Folds.{flat_map-map}
use Rattle.cov_tables.specs.Fields.{row}
use Rattle.cov_tables.specs.Joins.{texts_with}
use Rattle.cov_tables.specs.Kept.{texts_in}
use Rattle.cov_tables.proofs.names.Names.of.Goals as goal

pub loop-cells-init : goal.loop-cells-init
loop-cells-init c = λ id. ap (λ es. texts_in (lookup (λ k. is_eq (int_cmp id k)) es) ++ flat_map (λ v. texts_with id (row v)) c.args.lists.now) c.new.ensures.empty
    ∙ sym (flat_map-map (texts_with id) row c.args.lists.now)
