use Rattle.std.proofs.Common.{ap, ◌∙◌, pos}
use Rattle.std.specs.Prelude.{not}
use Rattle.std.proofs.lemmas.List.{take_all}
use Rattle.cov_analysis.specs.Branches.{is_covered, missing_branches_of}
use Rattle.cov_analysis.specs.Lookups.{is_counted}
use Rattle.cov_analysis.proofs.Keeping.{kept_more}
use Rattle.cov_analysis.proofs.branches.missing_branches.Goals as goal

pub loop-branch-preserved : goal.loop-branch-preserved
loop-branch-preserved c =
    kept_more (λ branch. not (is_covered c.args.no_branch.now (is_counted c.args.counts.now) branch)) c.args.branches.now c.loop-branch.branch-index (0, pos 0) c.loop-branch.missing.items _ _ c.loop-branch-test.true
    (ap not c.is_covered.ensures) c.loop-branch.invariant c.in_ok-push_if.ensures

pub returns : goal.returns
returns c =
    c.loop-branch.invariant
    ∙ ap (missing_branches_of c.args.no_branch.now (is_counted c.args.counts.now)) (take_all c.loop-branch.branch-index c.args.branches.now c.loop-branch-test.false)
