use Rattle.std.proofs.Common.{◌≡◌, ◌++◌, map, string_bytes}
use Rattle.std.specs.FinMap.{keys}
use Rattle.cov_data.specs.DataSet.{rekeyed}
use Rattle.cov_data.proofs.files.FileMap.paths.Given as goal

abbrev pub invariant-loop-path : goal.invariant-loop-path
invariant-loop-path l = map string_bytes l.paths.items ++ map (λ e. e.0) (rekeyed string_bytes l.path-iterator) ≡ keys l.self
