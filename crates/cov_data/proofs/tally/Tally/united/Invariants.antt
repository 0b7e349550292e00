use Rattle.std.proofs.Common.{◌≡◌, map}
use Rattle.cov_data.specs.DataSet.{rekeyed, add_counts}
use Rattle.cov_data.proofs.SideBySide.{entry_of}
use Rattle.cov_data.proofs.Unions.{entry_by}
use Rattle.cov_data.proofs.tally.Tally.united.Given as goal

abbrev pub invariant-loop-side : goal.invariant-loop-side
invariant-loop-side l = rekeyed (λ k. k) l.counts.items ≡ map (entry_of (entry_by (λ k. k)) add_counts) l.yielded
