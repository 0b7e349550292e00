use Rattle.std.proofs.Common.{◌≡◌, drop}
use Rattle.std.specs.List.{fold, flat_map}
use Rattle.std.specs.Option.{option_to_list}
use Rattle.cov_data.specs.DataSet.{with_path}
use Rattle.cov_tables.specs.Fields.{row, rows, text_at}
use Rattle.cov_tables.specs.Content.{paths_only}
use Rattle.cov_tables.proofs.content.paths_only.Given as goal

abbrev pub invariant-loop-cells : goal.invariant-loop-cells
invariant-loop-cells l = fold with_path l.data (flat_map (λ v. option_to_list (text_at (row v) 1)) (drop l.cells-index l.lists)) ≡ paths_only l.arcs (rows l.lists)
