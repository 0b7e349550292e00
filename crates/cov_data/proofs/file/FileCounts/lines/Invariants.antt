use Rattle.std.proofs.Common.{◌≡◌, string_bytes}
use Rattle.std.specs.List.{fold, flat_map}
use Rattle.std.specs.Ordering.{nat_cmp}
use Rattle.std.specs.BTreeSet.{insert_key}
use Rattle.cov_data.specs.DataSet.{rekeyed}
use Rattle.cov_data.specs.Rows.{place_lines, file_lines}
use Rattle.cov_data.specs.Stored.{listed}
use Rattle.cov_data.proofs.file.FileCounts.lines.Given as goal

abbrev pub invariant-loop-context : goal.invariant-loop-context
invariant-loop-context l = fold (insert_key nat_cmp) l.lines.keys (flat_map (λ e. place_lines e.0) (listed (rekeyed string_bytes l._context-iterator))) ≡ file_lines l.self
