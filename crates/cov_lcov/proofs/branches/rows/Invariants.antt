use Rattle.std.proofs.Common.{◌≡◌, take, string_bytes}
use Rattle.std.specs.BTreeSet.{contains}
use Rattle.std.specs.List.{flat_map}
use Rattle.std.specs.Ordering.{nat_cmp}
use Rattle.cov_analysis.specs.Branches.{branch_cmp}
use Rattle.cov_lcov.specs.Lcov.{branch_row}
use Rattle.cov_lcov.proofs.branches.rows.Given as goal

abbrev pub invariant-loop-entry : goal.invariant-loop-entry
invariant-loop-entry l = string_bytes l.text ≡ flat_map (branch_row (contains branch_cmp l.missing) (contains nat_cmp l.covered)) (take l.entry-index l.entries)
