use Rattle.std.proofs.Common.{◌≡◌, drop}
use Rattle.std.specs.BTreeSet.{contains}
use Rattle.std.specs.Ordering.{nat_cmp}
use Rattle.cov_text.specs.Missing.{with_items, branch_items}
use Rattle.cov_text.specs.Stored.{items_of}
use Rattle.cov_text.proofs.missing.add_branches.Given as goal

abbrev pub invariant-loop-branch : goal.invariant-loop-branch
invariant-loop-branch l =
    with_items (items_of l.items.keys) (branch_items (contains nat_cmp l.missing) (drop l.branch-index l.branches))
    ≡ with_items (items_of l.initial.items.keys) (branch_items (contains nat_cmp l.missing) l.branches)
