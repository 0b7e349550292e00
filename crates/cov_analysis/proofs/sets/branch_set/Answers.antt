use Rattle.std.proofs.Common.{◌∙◌, ap, pos}
use Rattle.std.specs.List.{list_any}
use Rattle.std.proofs.lemmas.List.{take_all}
use Rattle.cov_analysis.specs.Branches.{same_branch}
use Rattle.cov_analysis.proofs.Keeping.{any_more}
use Rattle.cov_analysis.proofs.sets.branch_set.Goals as goal

pub loop-branch-preserved : goal.loop-branch-preserved
loop-branch-preserved c = λ branch.
    any_more (same_branch branch) c.args.branches.now c.loop-branch.branch-index (0, pos 0) _ _ c.loop-branch-test.true (c.loop-branch.invariant branch) (c.in_ok-add_branch.ensures branch)

pub returns : goal.returns
returns c = λ branch. c.loop-branch.invariant branch ∙ ap (list_any (same_branch branch)) (take_all c.loop-branch.branch-index c.args.branches.now c.loop-branch-test.false)
