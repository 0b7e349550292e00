use Rattle.std.proofs.Common.{◌≡◌, ◌++◌, not, map, filter, string_bytes, drop}
use Rattle.cov_select.specs.Selected.{has_name}
use Rattle.cov_select.proofs.selection.others.Given as goal

abbrev pub invariant-loop-name : goal.invariant-loop-name
invariant-loop-name l = map string_bytes l.others.items ++ filter (λ name. not (has_name l.kept name)) (map string_bytes (drop l.name-index l.names)) ≡ filter (λ name. not (has_name l.kept name)) (map string_bytes l.names)
