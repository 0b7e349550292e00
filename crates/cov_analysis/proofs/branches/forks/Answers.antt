use Rattle.std.proofs.Common.{ap, ◌∙◌, pos}
use Rattle.std.specs.Prelude.{nat_lt, filter}
use Rattle.std.proofs.lemmas.List.{take_all}
use Rattle.cov_analysis.specs.Lookups.{count_in}
use Rattle.cov_analysis.proofs.Branching.{forks-same}
use Rattle.cov_analysis.proofs.Keeping.{kept_more}
use Rattle.cov_analysis.proofs.branches.forks.Goals as goal

pub loop-branch-preserved : goal.loop-branch-preserved
loop-branch-preserved c =
    kept_more (λ branch. nat_lt 1 (count_in c.in_ok-counts.counts branch.0)) c.args.branches.now c.loop-branch.branch-index (0, pos 0) c.loop-branch.several.items _ _ c.loop-branch-test.true (ap (nat_lt 1) c.count_of.ensures)
    c.loop-branch.invariant c.in_ok-push_if.ensures

pub returns : goal.returns
returns c =
    c.loop-branch.invariant
    ∙ ap (filter (λ branch. nat_lt 1 (count_in c.in_ok-counts.counts branch.0))) (take_all c.loop-branch.branch-index c.args.branches.now c.loop-branch-test.false)
    ∙ forks-same (count_in c.in_ok-counts.counts) c.args.branches.now c.in_ok-counts.ensures
