use Rattle.std.proofs.Common.{ap, sym, ◌++◌, map, string_bytes}
use Rattle.std.proofs.lemmas.Simd.{map-map}
use Rattle.cov_tables.specs.Entries.{entry_view}
use Rattle.cov_tables.specs.Joins.{entry}
use Rattle.cov_tables.specs.Kept.{key_view}
use Rattle.cov_tables.proofs.entries.Key.push_path.Goals as goal

pub loop-context-init : goal.loop-context-init
loop-context-init c = ap (λ es. map entry_view c.args.entries.now.items ++ es) (sym (map-map (entry (key_view c.args.self.now) c.args.path.now) string_bytes c.args.contexts.now))
