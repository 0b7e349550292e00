use Rattle.std.proofs.Common.{◌≡◌, ◌++◌, map, drop, string_bytes}
use Rattle.std.specs.List.{flat_map}
use Rattle.cov_runs.proofs.Lines.{lines_of}
use Rattle.cov_runs.proofs.listing.listing.Given as goal

abbrev pub invariant-loop-path : goal.invariant-loop-path
invariant-loop-path l =
    string_bytes l.text ++ flat_map (lines_of l.rows) (map string_bytes (drop l.path-index l.path-items))
    ≡ flat_map (lines_of l.rows) (map string_bytes l.path-items)
