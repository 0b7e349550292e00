use Rattle.std.proofs.Common.{◌≡◌, ◌≤◌, take}
use Rattle.std.specs.List.{count_by}
use Rattle.cov_analysis.specs.Lines.{is_among}
use Rattle.cov_analysis.proofs.analysing.partial_branches.Given as goal

abbrev pub invariant-loop-branch : goal.invariant-loop-branch
invariant-loop-branch l = record {
  counts : l.partial ≡ count_by (λ branch. is_among l.executed branch.0) (take l.branch-index l.branches);
  small : l.partial ≤ l.branch-index;
}
