use Rattle.std.proofs.Common.{ap, sym, ◌++◌, map, string_bytes}
use Rattle.std.proofs.lemmas.List.Folds.{flat_map-map}
use Rattle.cov_tables.specs.Entries.{entry_view}
use Rattle.cov_tables.specs.Joins.{entry}
use Rattle.cov_tables.specs.Kept.{key_view}
use Rattle.cov_tables.proofs.entries.Key.push_joined.Goals as goal

pub loop-path-init : goal.loop-path-init
loop-path-init c = ap (λ es. map entry_view c.args.entries.now.items ++ es) (sym (flat_map-map (λ path. map (entry (key_view c.args.self.now) path) (map string_bytes c.args.contexts.now)) string_bytes c.args.paths.now))
