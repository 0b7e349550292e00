use Rattle.std.proofs.Common.{◌≡◌, take, map}
use Rattle.cov_analysis.specs.Hits.{line_hits}
use Rattle.cov_analysis.specs.Lookups.{count_in}
use Rattle.cov_analysis.proofs.hits.hits.Given as goal

abbrev pub invariant-loop-line : goal.invariant-loop-line
invariant-loop-line l = l.hits.items ≡ map (line_hits l.executed (count_in l.counts)) (take l.line-index l.lines)
