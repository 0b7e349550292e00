use Rattle.std.proofs.Common.{◌≡◌, take}
use Rattle.std.specs.BTreeSet.{contains}
use Rattle.std.specs.List.{list_any}
use Rattle.cov_analysis.specs.Branches.{Branch, branch_cmp, same_branch}
use Rattle.cov_analysis.proofs.sets.branch_set.Given as goal

abbrev pub invariant-loop-branch : goal.invariant-loop-branch
invariant-loop-branch l = (branch : Branch) → contains branch_cmp l.set branch ≡ list_any (same_branch branch) (take l.branch-index l.branches)
