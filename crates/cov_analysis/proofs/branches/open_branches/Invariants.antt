use Rattle.std.proofs.Common.{◌≡◌, take}
use Rattle.cov_analysis.specs.Branches.{open_branches}
use Rattle.cov_analysis.proofs.branches.open_branches.Given as goal

abbrev pub invariant-loop-place : goal.invariant-loop-place
invariant-loop-place l = l.found.items ≡ open_branches l.excluded (take l.place l.arcs)
