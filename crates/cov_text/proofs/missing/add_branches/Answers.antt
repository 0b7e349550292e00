use Rattle.std.proofs.Common.{◌+◌, pos, List, drop, get_or, ap, sym, ◌∙◌}
use Rattle.std.specs.BTreeSet.{contains}
use Rattle.std.specs.Ordering.{nat_cmp}
use Rattle.std.proofs.lemmas.List.{at_drop_all}
use Rattle.cov_analysis.specs.Branches.{Branch}
use Rattle.cov_text.specs.Missing.{Item, with_items, branch_items}
use Rattle.cov_text.specs.Stored.{items_of}
use Rattle.cov_text.proofs.Items.{branch_added}
use Rattle.cov_text.proofs.Lists.{drop_at}
use Rattle.cov_text.proofs.missing.add_branches.Goals as goal

pub loop-branch-preserved : goal.loop-branch-preserved
loop-branch-preserved c =
    let test = contains nat_cmp c.args.missing.now in
    let i = c.loop-branch.branch-index in
    let branches = c.args.branches.now in
    let branch = get_or branches i (0, pos 0) in
    let items = items_of c.loop-branch.items.keys in
    let here = ap (λ (xs : List Branch). with_items items (branch_items test xs)) (drop_at branches i (0, pos 0) c.loop-branch-test.true) in
    branch_added test items (items_of c.add_branch.new.items.keys) _ branch (drop (i + 1) branches) c.in_ok-add_branch.ensures (sym here ∙ c.loop-branch.invariant)

pub returns : goal.returns
returns c =
    let left : List Branch → List Item = λ xs. with_items (items_of c.loop-branch.items.keys) (branch_items (contains nat_cmp c.args.missing.now) xs) in
    sym (at_drop_all left c.args.branches.now c.loop-branch.branch-index c.loop-branch-test.false) ∙ c.loop-branch.invariant
