use Rattle.std.proofs.Common.{◌≡◌, take, map}
use Rattle.cov_data.specs.Rows.{row_view}
use Rattle.cov_analysis.specs.Branches.{Branch}
use Rattle.cov_analysis.specs.Hits.{is_taken, branch_count}
use Rattle.cov_analysis.specs.Lookups.{is_counted, branch_count_in}
use Rattle.cov_analysis.proofs.hits.branch_counts.Given as goal

abbrev pub invariant-loop-row : goal.invariant-loop-row
invariant-loop-row l = record {
  taken : (branch : Branch) → is_counted l.counts branch ≡ is_taken (map row_view (take l.row-index l.rows)) branch;
  count : (branch : Branch) → branch_count_in l.counts branch ≡ branch_count (map row_view (take l.row-index l.rows)) branch;
}
