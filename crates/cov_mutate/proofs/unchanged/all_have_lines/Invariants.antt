use Rattle.std.proofs.Common.{All, map, take}
use Rattle.cov_recorder.specs.Plan.{IsFirst, named}
use Rattle.cov_mutate.proofs.unchanged.all_have_lines.Given as goal

abbrev pub invariant-loop-names : goal.invariant-loop-names
invariant-loop-names l = All (λ ns. All (λ n. IsFirst n.first) (map named ns.items)) (take l.names-index l.units)
