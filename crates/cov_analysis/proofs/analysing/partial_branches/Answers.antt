use Rattle.std.proofs.Common.{◌∙◌, ap, pos, if◌then◌else◌, arith}
use Rattle.std.specs.List.{count_by}
use Rattle.std.proofs.lemmas.List.{take_all}
use Rattle.cov_analysis.specs.Lines.{is_among}
use Rattle.cov_analysis.proofs.Counting.{passing_more}
use Rattle.cov_analysis.proofs.analysing.partial_branches.Goals as goal

pub loop-branch-preserved : goal.loop-branch-preserved
loop-branch-preserved c = record {
  counts =
      passing_more (λ branch. is_among c.args.executed.now branch.0) c.args.branches.now c.loop-branch.branch-index (0, pos 0) c.loop-branch.partial c.one_if-partial.result c.loop-branch-test.true c.loop-branch.invariant.counts
      (c.one_if-partial.ensures.is ∙ ap (λ b. if b then 1 else 0) c.is_among.ensures);
  small = omega (arith, c.loop-branch.invariant.small, c.one_if-partial.ensures.small);
}

pub returns : goal.returns
returns c =
    c.loop-branch.invariant.counts
    ∙ ap (count_by (λ branch. is_among c.args.executed.now branch.0)) (take_all c.loop-branch.branch-index c.args.branches.now c.loop-branch-test.false)
