use Rattle.std.proofs.Common.{◌≡◌, take}
use Rattle.std.specs.Prelude.{nat_lt, filter}
use Rattle.cov_analysis.specs.Lookups.{count_in}
use Rattle.cov_analysis.proofs.branches.forks.Given as goal

abbrev pub invariant-loop-branch : goal.invariant-loop-branch
invariant-loop-branch l = l.several.items ≡ filter (λ branch. nat_lt 1 (count_in l.counts branch.0)) (take l.branch-index l.branches)
