use Rattle.std.proofs.Common.{◌≡◌, map, drop}
use Rattle.cov_analysis.specs.Counts.{numbers_of, total_of}
use Rattle.cov_analysis.proofs.Sums.{going_on, AreSmall}
use Rattle.cov_analysis.proofs.analysis.total.Given as goal

abbrev pub invariant-loop-analysis : goal.invariant-loop-analysis
invariant-loop-analysis l = (going_on l.sums (map numbers_of (drop l.analysis-index l.all)) ≡ total_of (map numbers_of l.all)) × AreSmall l.sums
