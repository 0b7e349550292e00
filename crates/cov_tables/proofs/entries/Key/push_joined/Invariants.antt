use Rattle.std.proofs.Common.{◌≡◌, ◌++◌, map, string_bytes, drop}
use Rattle.std.specs.List.{flat_map}
use Rattle.cov_tables.specs.Entries.{entry_view}
use Rattle.cov_tables.specs.Joins.{entry, joined}
use Rattle.cov_tables.specs.Kept.{key_view}
use Rattle.cov_tables.proofs.entries.Key.push_joined.Given as goal

abbrev pub invariant-loop-path : goal.invariant-loop-path
invariant-loop-path l = map entry_view l.entries.items ++ flat_map (λ path. map (entry (key_view l.self) (string_bytes path)) (map string_bytes l.contexts)) (drop l.path-index l.paths) ≡ map entry_view l.fn.entries.items ++ joined (key_view l.self) (map string_bytes l.paths) (map string_bytes l.contexts)
