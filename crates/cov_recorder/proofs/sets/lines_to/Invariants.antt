use Rattle.std.proofs.Common.{◌≡◌}
use Rattle.cov_recorder.specs.Plan.{lines_to}
use Rattle.cov_recorder.proofs.sets.lines_to.Given as goal

abbrev pub invariant-loop-before : goal.invariant-loop-before
invariant-loop-before l = l.lines.items ≡ lines_to l.before
