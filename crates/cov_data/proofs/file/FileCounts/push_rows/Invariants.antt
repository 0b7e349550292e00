use Rattle.std.proofs.Common.{◌≡◌, ◌++◌, map, string_bytes}
use Rattle.cov_data.specs.DataSet.{rekeyed}
use Rattle.cov_data.specs.Rows.{row_view, row_of, file_rows}
use Rattle.cov_data.specs.Stored.{listed}
use Rattle.cov_data.proofs.file.FileCounts.push_rows.Given as goal

abbrev pub invariant-loop-context : goal.invariant-loop-context
invariant-loop-context l = map row_view l.rows.items ++ map (row_of l.path) (listed (rekeyed string_bytes l.context-iterator)) ≡ map row_view l.initial.rows.items ++ file_rows l.path l.self
