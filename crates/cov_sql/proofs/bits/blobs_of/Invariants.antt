use Rattle.std.proofs.Common.{take}
use Rattle.std.specs.List.{AllZip}
use Rattle.cov_sql.specs.Groups.{IsBlobOf}
use Rattle.cov_sql.proofs.bits.blobs_of.Given as goal

abbrev pub invariant-loop-group : goal.invariant-loop-group
invariant-loop-group l = AllZip IsBlobOf (take l.group-index l.groups) l.blobs.items
