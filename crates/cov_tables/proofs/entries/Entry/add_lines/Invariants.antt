use Rattle.std.proofs.Common.{◌≡◌, false, drop}
use Rattle.std.specs.List.{fold, flat_map}
use Rattle.cov_data.specs.Rows.{with_row}
use Rattle.cov_tables.specs.Content.{line_row}
use Rattle.cov_tables.specs.Entries.{entry_view}
use Rattle.cov_tables.specs.Kept.{count_at}
use Rattle.cov_tables.proofs.entries.Entry.add_lines.Given as goal

abbrev pub invariant-loop-line : goal.invariant-loop-line
invariant-loop-line l = record {
  added : fold with_row l.data (flat_map (line_row (count_at l.hits) (entry_view l.self)) (drop l.line-index l.lines)) ≡ fold with_row l.fn.data (flat_map (line_row (count_at l.hits) (entry_view l.self)) l.lines);
  kind : l.data.arcs ≡ false;
}
