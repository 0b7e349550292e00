use Rattle.std.proofs.Common.{◌≡◌, ◌++◌, map, string_bytes}
use Rattle.cov_data.specs.DataSet.{rekeyed}
use Rattle.cov_data.specs.Rows.{lent_view, row_of, file_rows}
use Rattle.cov_data.specs.Stored.{listed}
use Rattle.cov_data.proofs.file.FileCounts.push_lent.Given as goal

abbrev pub invariant-loop-context : goal.invariant-loop-context
invariant-loop-context l = map lent_view l.rows.items ++ map (row_of l.path) (listed (rekeyed string_bytes l.context-iterator)) ≡ map lent_view l.initial.rows.items ++ file_rows l.path l.self
