use Rattle.std.proofs.Common.{subst, All}
use Rattle.cov_data.specs.DataSet.{DataSet}
use Rattle.cov_data.specs.Rows.{rows_of}
use Rattle.cov_data.proofs.RowLists.{rows_of-in_range, IsRowInRange}
use Rattle.cov_data.proofs.dataset.Data.rows.Goals as goal

pub returns-clause-in_range : goal.returns-clause-in_range
returns-clause-in_range c =
    let P = λ (d : DataSet). All (IsRowInRange d.arcs) (rows_of d) in
    subst P c.self.view_is (rows_of-in_range (record { arcs = c.self.inside.arcs; files = c.self.inside.files }) c.self.invariant)
