use Rattle.std.proofs.Common.{ap, min, pos, ◌∙◌}
use Rattle.std.specs.List.{count_by}
use Rattle.std.proofs.lemmas.List.{take_all}
use Rattle.cov_analysis.specs.Branches.{leaves}
use Rattle.cov_analysis.specs.Lookups.{count_in}
use Rattle.cov_analysis.proofs.Counting.{leaving_more}
use Rattle.cov_analysis.proofs.branches.destinations.Goals as goal

pub loop-branch-preserved : goal.loop-branch-preserved
loop-branch-preserved c = λ line.
    leaving_more line c.args.branches.now c.loop-branch.branch-index (0, pos 0) (count_in c.loop-branch.counts line) _ c.loop-branch-test.true (c.loop-branch.invariant line) (c.in_ok-raise.ensures line)

pub returns : goal.returns
returns c = λ line.
    c.loop-branch.invariant line ∙ ap (λ branches. min (count_by (leaves line) branches) 4294967295) (take_all c.loop-branch.branch-index c.args.branches.now c.loop-branch-test.false)
