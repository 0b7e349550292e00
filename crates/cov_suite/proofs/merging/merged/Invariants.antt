use Rattle.std.proofs.Common.{◌≡◌, ◌+◌, ◌-◌, ◌≤◌, ◌++◌, length, map, drop}
use Rattle.cov_suite.specs.Merging.{merged}
use Rattle.cov_suite.specs.Views.{line_of}
use Rattle.cov_suite.proofs.merging.merged.Given as goal

abbrev pub invariant-loop-i : goal.invariant-loop-i
invariant-loop-i l = record {
  i_in : l.i ≤ length l.left;
  j_in : l.j ≤ length l.right;
  so_far : map line_of l.lines.items ++ merged (map line_of (drop l.i l.left)) (map line_of (drop l.j l.right))
      ≡ merged (map line_of l.left) (map line_of l.right);
}

abbrev pub decreases-loop-i : goal.decreases-loop-i
decreases-loop-i l = (length l.left - l.i) + (length l.right - l.j)
