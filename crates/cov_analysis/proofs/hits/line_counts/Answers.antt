use Rattle.std.proofs.Common.{ap, map, ◌∙◌}
use Rattle.std.proofs.lemmas.List.{take_all}
use Rattle.cov_data.specs.Rows.{row_view}
use Rattle.cov_analysis.specs.Hits.{goes_to, line_count}
use Rattle.cov_analysis.specs.Lookups.{count_in}
use Rattle.cov_analysis.proofs.Counting.{counted_more}
use Rattle.cov_analysis.proofs.hits.line_counts.Goals as goal

pub loop-row-preserved : goal.loop-row-preserved
loop-row-preserved c = λ line.
    counted_more (goes_to line) c.args.rows.now c.loop-row.row-index c.row-item.result (count_in c.loop-row.counts line) _ c.loop-row-test.true c.row-item.is (c.loop-row.invariant line) (c.in_ok-add_to_line.ensures line)

pub returns : goal.returns
returns c = λ line. c.loop-row.invariant line ∙ ap (λ rows. line_count (map row_view rows) line) (take_all c.loop-row.row-index c.args.rows.now c.loop-row-test.false)
