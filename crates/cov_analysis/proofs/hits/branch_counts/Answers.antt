use Rattle.std.proofs.Common.{ap, map, ◌∙◌}
use Rattle.std.proofs.lemmas.List.{take_all}
use Rattle.cov_data.specs.Rows.{row_view}
use Rattle.cov_analysis.specs.Hits.{takes, is_taken, branch_count}
use Rattle.cov_analysis.specs.Lookups.{is_counted, branch_count_in}
use Rattle.cov_analysis.proofs.Counting.{counted_more, passed_more}
use Rattle.cov_analysis.proofs.hits.branch_counts.Goals as goal

pub loop-row-preserved : goal.loop-row-preserved
loop-row-preserved c = record {
  taken = λ branch.
      passed_more (takes branch) c.args.rows.now c.loop-row.row-index c.row-item.result (is_counted c.loop-row.counts branch) _ c.loop-row-test.true c.row-item.is (c.loop-row.invariant.taken branch)
      (c.in_ok-add_to_branch.ensures.taken branch);
  count = λ branch.
      counted_more (takes branch) c.args.rows.now c.loop-row.row-index c.row-item.result (branch_count_in c.loop-row.counts branch) _ c.loop-row-test.true c.row-item.is (c.loop-row.invariant.count branch)
      (c.in_ok-add_to_branch.ensures.count branch);
}

pub returns : goal.returns
returns c = record {
  taken = λ branch. c.loop-row.invariant.taken branch ∙ ap (λ rows. is_taken (map row_view rows) branch) (take_all c.loop-row.row-index c.args.rows.now c.loop-row-test.false);
  count = λ branch. c.loop-row.invariant.count branch ∙ ap (λ rows. branch_count (map row_view rows) branch) (take_all c.loop-row.row-index c.args.rows.now c.loop-row-test.false);
}
