use Rattle.std.proofs.Common.{◌≡◌, ◌++◌, map}
use Rattle.std.specs.FinMap.{entries}
use Rattle.cov_data.specs.DataSet.{rekeyed}
use Rattle.cov_data.specs.Rows.{row_view, row_of}
use Rattle.cov_data.specs.Stored.{under}
use Rattle.cov_data.proofs.tally.Tally.push_rows.Given as goal

abbrev pub invariant-loop-numbers : goal.invariant-loop-numbers
invariant-loop-numbers l = map row_view l.rows.items ++ map (row_of l.path) (under l.context (rekeyed (λ k. k) l.numbers-iterator)) ≡ map row_view l.initial.rows.items ++ map (row_of l.path) (under l.context (entries l.self))
