use Rattle.std.proofs.Common.{◌≡◌, ℕ, min, take}
use Rattle.std.specs.List.{count_by}
use Rattle.cov_analysis.specs.Branches.{leaves}
use Rattle.cov_analysis.specs.Lookups.{count_in}
use Rattle.cov_analysis.proofs.branches.destinations.Given as goal

abbrev pub invariant-loop-branch : goal.invariant-loop-branch
invariant-loop-branch l = (line : ℕ) → count_in l.counts line ≡ min (count_by (leaves line) (take l.branch-index l.branches)) 4294967295
