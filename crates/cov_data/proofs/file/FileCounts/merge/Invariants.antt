use Rattle.std.proofs.Common.{◌≡◌, string_bytes}
use Rattle.std.specs.List.{fold}
use Rattle.cov_data.specs.DataSet.{merged, rekeyed}
use Rattle.cov_data.specs.Stored.{add_under}
use Rattle.cov_data.proofs.file.FileCounts.merge.Given as goal

abbrev pub invariant-loop-context : goal.invariant-loop-context
invariant-loop-context l = fold (λ h e. add_under h e.0 e.1) l.self (rekeyed string_bytes l.context-iterator) ≡ merged l.initial.self l.other
