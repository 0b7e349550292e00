use Rattle.std.proofs.Common.{◌≡◌, drop}
use Rattle.cov_predict.specs.Walk.{with_targets}
use Rattle.cov_predict.proofs.jumps.add_each.Given as goal

abbrev pub invariant-loop-end : goal.invariant-loop-end
invariant-loop-end l = with_targets l.ends.items (drop l.end-index l.more) ≡ with_targets l.initial.ends.items l.more
