use Rattle.std.proofs.Common.{◌≡◌, ◌++◌, map, drop, string_bytes}
use Rattle.std.specs.List.{flat_map}
use Rattle.cov_suite.specs.Rows.{path_lines}
use Rattle.cov_suite.specs.Views.{line_of}
use Rattle.cov_suite.proofs.data_lines.lines_in.Given as goal

abbrev pub invariant-loop-path : goal.invariant-loop-path
invariant-loop-path l =
    map line_of l.lines.items ++ flat_map (λ path. path_lines l.rows (string_bytes path)) (drop l.path-index l.path-items)
    ≡ flat_map (λ path. path_lines l.rows (string_bytes path)) l.path-items
