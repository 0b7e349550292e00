use Rattle.std.proofs.Common.{map, ap, ◌∙◌}
use Rattle.std.proofs.lemmas.List.{take_all}
use Rattle.cov_analysis.specs.Hits.{line_hits}
use Rattle.cov_analysis.specs.Lookups.{count_in}
use Rattle.cov_analysis.proofs.Keeping.{mapped_more}
use Rattle.cov_analysis.proofs.hits.hits.Goals as goal

pub loop-line-preserved : goal.loop-line-preserved
loop-line-preserved c =
    mapped_more (line_hits c.args.executed.now (count_in c.args.counts.now)) c.args.lines.now c.loop-line.line-index 0 c.loop-line.hits.items _ _ c.loop-line-test.true c.hits_of_line.ensures c.loop-line.invariant c.in_ok-push.ensures.items

pub returns : goal.returns
returns c = c.loop-line.invariant ∙ ap (map (line_hits c.args.executed.now (count_in c.args.counts.now))) (take_all c.loop-line.line-index c.args.lines.now c.loop-line-test.false)
