use Rattle.std.proofs.Common.{◌≡◌, map, drop}
use Rattle.std.specs.List.{fold, flat_map, position_from}
use Rattle.cov_data.specs.Rows.{with_row}
use Rattle.cov_tables.specs.Content.{is_bad, rows_said}
use Rattle.cov_tables.specs.Entries.{entry_view}
use Rattle.cov_tables.specs.Kept.{count_at}
use Rattle.cov_tables.proofs.adding.add_entries.Given as goal

abbrev pub invariant-loop-at : goal.invariant-loop-at
invariant-loop-at l = record {
  left : position_from (is_bad l.fn.data.arcs) l.at (map entry_view (drop l.at l.entries)) ≡ position_from (is_bad l.fn.data.arcs) 0 (map entry_view l.entries);
  added : fold with_row l.data (flat_map (rows_said l.fn.data.arcs (count_at l.hits)) (map entry_view (drop l.at l.entries))) ≡ fold with_row l.fn.data (flat_map (rows_said l.fn.data.arcs (count_at l.hits)) (map entry_view l.entries));
  kind : l.data.arcs ≡ l.fn.data.arcs;
}
