use Rattle.std.proofs.Common.{◌≡◌, map, take, string_bytes}
use Rattle.cov_step.specs.Names.{data_name}
use Rattle.cov_joins.proofs.inputs.data_names.Given as goal

abbrev pub invariant-loop-name : goal.invariant-loop-name
invariant-loop-name l = map string_bytes l.taken.items ≡ map data_name (map string_bytes (take l.name-index l.fn.names))
