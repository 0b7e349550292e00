use Rattle.std.proofs.Common.{◌≡◌, take}
use Rattle.cov_analysis.specs.Branches.{missing_branches_of}
use Rattle.cov_analysis.specs.Lookups.{is_counted}
use Rattle.cov_analysis.proofs.branches.missing_branches.Given as goal

abbrev pub invariant-loop-branch : goal.invariant-loop-branch
invariant-loop-branch l = l.missing.items ≡ missing_branches_of l.no_branch (is_counted l.counts) (take l.branch-index l.branches)
