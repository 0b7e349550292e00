use Rattle.std.proofs.Common.{◌≡◌, map}
use Rattle.cov_recorder.specs.Plan.{counted}
use Rattle.cov_recorder.proofs.plan.counted_sets.Given as goal

abbrev pub invariant-loop-set : goal.invariant-loop-set
invariant-loop-set l = l.sets.items ≡ map (counted l.arcs) l.yielded
