use Rattle.std.proofs.Common.{All, take}
use Rattle.cov_recorder.specs.Plan.{IsFirst}
use Rattle.cov_mutate.proofs.unchanged.have_lines.Given as goal

abbrev pub invariant-loop-name : goal.invariant-loop-name
invariant-loop-name l = All (λ n. IsFirst n.first) (take l.name-index l.names)
