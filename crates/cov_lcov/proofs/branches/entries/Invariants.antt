use Rattle.std.proofs.Common.{◌≡◌, take}
use Rattle.std.specs.List.{zip}
use Rattle.cov_lcov.proofs.Pieces.{entries_so_far}
use Rattle.cov_lcov.proofs.branches.entries.Given as goal

abbrev pub invariant-loop-at : goal.invariant-loop-at
invariant-loop-at l = l.set.keys ≡ entries_so_far (take l.at (zip l.branches l.hits))
