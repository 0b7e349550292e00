use Rattle.std.proofs.Common.{◌≡◌, take, map}
use Rattle.cov_analysis.specs.Hits.{branch_hits}
use Rattle.cov_analysis.specs.Lookups.{is_counted, branch_count_in}
use Rattle.cov_analysis.proofs.hits.branch_hits.Given as goal

abbrev pub invariant-loop-branch : goal.invariant-loop-branch
invariant-loop-branch l = l.hits.items ≡ map (branch_hits l.no_branch (is_counted l.counts) (branch_count_in l.counts)) (take l.branch-index l.branches)
