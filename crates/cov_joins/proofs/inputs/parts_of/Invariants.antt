use Rattle.std.proofs.Common.{◌≡◌, map, filter, string_bytes}
use Rattle.cov_step.specs.Phases.{is_part_of}
use Rattle.cov_joins.proofs.inputs.parts_of.Given as goal

abbrev pub invariant-loop-name : goal.invariant-loop-name
invariant-loop-name l = map string_bytes l.parts.items ≡ filter (is_part_of l.fn.own) (map string_bytes l.yielded)
