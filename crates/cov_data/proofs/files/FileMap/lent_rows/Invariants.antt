use Rattle.std.proofs.Common.{◌≡◌, ◌++◌, map, string_bytes}
use Rattle.std.specs.List.{flat_map}
use Rattle.cov_data.specs.DataSet.{rekeyed}
use Rattle.cov_data.specs.Rows.{lent_view, file_rows, files_rows}
use Rattle.cov_data.proofs.files.FileMap.lent_rows.Given as goal

abbrev pub invariant-loop-path : goal.invariant-loop-path
invariant-loop-path l = map lent_view l.rows.items ++ flat_map (λ e. file_rows e.0 e.1) (rekeyed string_bytes l.path-iterator) ≡ files_rows l.self
