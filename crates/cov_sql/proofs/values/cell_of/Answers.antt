use Rattle.std.proofs.Common.{refl}
use Rattle.cov_sql.proofs.values.cell_of.Goals as goal

pub returns-in_ok-from_slice-in-Blob : goal.returns-in_ok-from_slice-in-Blob
returns-in_ok-from_slice-in-Blob c = rw c.in-Blob.is (c.in_ok-from_slice-in-Blob.field-0, refl, c.in_ok-from_slice-in-Blob.ensures.items)
