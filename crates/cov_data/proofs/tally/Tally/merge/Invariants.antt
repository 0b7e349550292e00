use Rattle.std.proofs.Common.{◌≡◌}
use Rattle.std.specs.List.{fold}
use Rattle.cov_data.specs.DataSet.{rekeyed}
use Rattle.cov_data.specs.Stored.{add_at, both_counts}
use Rattle.cov_data.proofs.tally.Tally.merge.Given as goal

abbrev pub invariant-loop-numbers : goal.invariant-loop-numbers
invariant-loop-numbers l = fold (λ h e. add_at h e.0 e.1) l.self (rekeyed (λ k. k) l.numbers-iterator) ≡ both_counts l.initial.self l.other
