use Rattle.std.proofs.Common.{map, ap, ◌∙◌, pos}
use Rattle.std.proofs.lemmas.List.{take_all}
use Rattle.cov_analysis.specs.Hits.{branch_hits}
use Rattle.cov_analysis.specs.Lookups.{is_counted, branch_count_in}
use Rattle.cov_analysis.proofs.Keeping.{mapped_more}
use Rattle.cov_analysis.proofs.hits.branch_hits.Goals as goal

pub loop-branch-preserved : goal.loop-branch-preserved
loop-branch-preserved c =
    mapped_more (branch_hits c.args.no_branch.now (is_counted c.args.counts.now) (branch_count_in c.args.counts.now)) c.args.branches.now c.loop-branch.branch-index (0, pos 0) c.loop-branch.hits.items _ _
    c.loop-branch-test.true c.hits_of_branch.ensures c.loop-branch.invariant c.in_ok-push.ensures.items

pub returns : goal.returns
returns c =
    c.loop-branch.invariant
    ∙ ap (map (branch_hits c.args.no_branch.now (is_counted c.args.counts.now) (branch_count_in c.args.counts.now))) (take_all c.loop-branch.branch-index c.args.branches.now c.loop-branch-test.false)
