use Rattle.std.proofs.Common.{◌≡◌, take, string_bytes}
use Rattle.std.specs.List.{flat_map, zip}
use Rattle.cov_lcov.specs.Lcov.{statement_row}
use Rattle.cov_lcov.proofs.reporting.statement_rows.Given as goal

abbrev pub invariant-loop-at : goal.invariant-loop-at
invariant-loop-at l = string_bytes l.text ≡ flat_map statement_row (take l.at (zip l.lines l.hits))
