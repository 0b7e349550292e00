use Rattle.std.proofs.Common.{◌≡◌, ℕ, take, map}
use Rattle.cov_data.specs.Rows.{row_view}
use Rattle.cov_analysis.specs.Hits.{line_count}
use Rattle.cov_analysis.specs.Lookups.{count_in}
use Rattle.cov_analysis.proofs.hits.line_counts.Given as goal

abbrev pub invariant-loop-row : goal.invariant-loop-row
invariant-loop-row l = (line : ℕ) → count_in l.counts line ≡ line_count (map row_view (take l.row-index l.rows)) line
