use Rattle.std.proofs.Common.{◌≡◌, ◌++◌, map, string_bytes, drop}
use Rattle.cov_tables.specs.Entries.{entry_view}
use Rattle.cov_tables.specs.Joins.{entry}
use Rattle.cov_tables.specs.Kept.{key_view}
use Rattle.cov_tables.proofs.entries.Key.push_path.Given as goal

abbrev pub invariant-loop-context : goal.invariant-loop-context
invariant-loop-context l = map entry_view l.entries.items ++ map (λ context. entry (key_view l.self) l.path (string_bytes context)) (drop l.context-index l.contexts) ≡ map entry_view l.fn.entries.items ++ map (entry (key_view l.self) l.path) (map string_bytes l.contexts)
