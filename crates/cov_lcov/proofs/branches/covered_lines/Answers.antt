use Rattle.std.proofs.Common.{◌∙◌, ap, pos, nat_eq, not, ◌&&◌, ◌||◌, get_or}
use Rattle.std.specs.BTreeSet.{contains}
use Rattle.std.specs.Ordering.{nat_cmp}
use Rattle.std.proofs.lemmas.List.{take_all}
use Rattle.cov_analysis.specs.Branches.{branch_cmp}
use Rattle.cov_lcov.specs.Lcov.{leaves_covered}
use Rattle.cov_analysis.proofs.Keeping.{any_more}
use Rattle.cov_lcov.proofs.branches.covered_lines.Goals as goal

pub loop-branch-preserved : goal.loop-branch-preserved
loop-branch-preserved c = λ line.
    any_more (λ branch. nat_eq line branch.0 && not (contains branch_cmp c.args.missing.now branch)) c.args.branches.now c.loop-branch.branch-index (0, pos 0) _ _ c.loop-branch-test.true (c.loop-branch.invariant line)
    (c.in_ok-add_if.ensures line ∙ ap (λ b. contains nat_cmp c.loop-branch.set line || nat_eq line (get_or c.args.branches.now c.loop-branch.branch-index (0, pos 0)).0 && not b) c.contains.ensures)

pub returns : goal.returns
returns c = λ line. c.loop-branch.invariant line ∙ ap (λ branches. leaves_covered (contains branch_cmp c.args.missing.now) branches line) (take_all c.loop-branch.branch-index c.args.branches.now c.loop-branch-test.false)
