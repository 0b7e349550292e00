use Rattle.std.proofs.Common.{◌≡◌, ℕ, take}
use Rattle.std.specs.BTreeSet.{contains}
use Rattle.std.specs.Ordering.{nat_cmp}
use Rattle.cov_analysis.specs.Branches.{branch_cmp}
use Rattle.cov_lcov.specs.Lcov.{leaves_covered}
use Rattle.cov_lcov.proofs.branches.covered_lines.Given as goal

abbrev pub invariant-loop-branch : goal.invariant-loop-branch
invariant-loop-branch l = (line : ℕ) → contains nat_cmp l.set line ≡ leaves_covered (contains branch_cmp l.missing) (take l.branch-index l.branches) line
