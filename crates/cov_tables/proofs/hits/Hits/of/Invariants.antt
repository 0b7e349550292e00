use Rattle.std.proofs.Common.{◌≡◌, drop}
use Rattle.std.specs.List.{flat_map}
use Rattle.cov_tables.specs.Fields.{row, rows}
use Rattle.cov_tables.specs.Hits.{Spot, counts_with, count_of}
use Rattle.cov_tables.specs.Kept.{kept_at}
use Rattle.cov_tables.proofs.Counting.{in_all}
use Rattle.cov_tables.proofs.hits.Hits.of.Given as goal

abbrev pub invariant-loop-cells : goal.invariant-loop-cells
invariant-loop-cells l = (spot : Spot) → in_all (kept_at l.hits spot) (flat_map (λ v. counts_with spot (row v)) (drop l.cells-index l.lists)) ≡ count_of (rows l.lists) spot
