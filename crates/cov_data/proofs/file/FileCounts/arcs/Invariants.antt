use Rattle.std.proofs.Common.{◌≡◌, map, string_bytes}
use Rattle.std.specs.List.{fold}
use Rattle.std.specs.BTreeSet.{insert_key}
use Rattle.cov_data.specs.DataSet.{rekeyed}
use Rattle.cov_data.specs.Rows.{arc_cmp, file_arcs}
use Rattle.cov_data.specs.Stored.{listed}
use Rattle.cov_data.proofs.file.FileCounts.arcs.Given as goal

abbrev pub invariant-loop-context : goal.invariant-loop-context
invariant-loop-context l = fold (insert_key arc_cmp) l.arcs.keys (map (λ e. e.0.1) (listed (rekeyed string_bytes l._context-iterator))) ≡ file_arcs l.self
