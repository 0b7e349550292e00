use Rattle.std.proofs.Common.{◌≡◌, ◌++◌, ℤ, drop}
use Rattle.std.specs.List.{flat_map}
use Rattle.cov_tables.specs.Fields.{row, rows}
use Rattle.cov_tables.specs.Joins.{texts_with, texts_of}
use Rattle.cov_tables.specs.Kept.{texts_at}
use Rattle.cov_tables.proofs.names.Names.of.Given as goal

abbrev pub invariant-loop-cells : goal.invariant-loop-cells
invariant-loop-cells l = (id : ℤ) → texts_at l.names id ++ flat_map (λ v. texts_with id (row v)) (drop l.cells-index l.lists) ≡ texts_of (rows l.lists) id
