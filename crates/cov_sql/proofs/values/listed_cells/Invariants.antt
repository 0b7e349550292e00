use Rattle.std.proofs.Common.{take}
use Rattle.std.specs.List.{AllZip}
use Rattle.cov_sql.specs.Cells.{IsCell}
use Rattle.cov_sql.proofs.values.listed_cells.Given as goal

abbrev pub invariant-loop-at : goal.invariant-loop-at
invariant-loop-at l = AllZip IsCell (take l.at l.row) l.cells.items
