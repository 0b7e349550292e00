use Rattle.std.proofs.Common.{◌≡◌, ◌++◌, map, drop}
use Rattle.std.specs.List.{flat_map}
use Rattle.cov_tables.specs.Fields.{row, rows}
use Rattle.cov_tables.specs.Entries.{entry_view}
use Rattle.cov_tables.specs.Joins.{arc_key, joined_if}
use Rattle.cov_tables.specs.Kept.{texts_at}
use Rattle.cov_tables.proofs.entries.arc_entries.Given as goal

abbrev pub invariant-loop-cells : goal.invariant-loop-cells
invariant-loop-cells l = map entry_view l.entries.items ++ flat_map (λ v. joined_if (arc_key (row v)) (texts_at l.files) (texts_at l.contexts)) (drop l.cells-index l.lists) ≡ flat_map (λ r. joined_if (arc_key r) (texts_at l.files) (texts_at l.contexts)) (rows l.lists)
