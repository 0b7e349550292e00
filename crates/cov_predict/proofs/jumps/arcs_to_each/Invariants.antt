use Rattle.std.proofs.Common.{◌≡◌, ◌++◌, drop}
use Rattle.cov_predict.specs.Walk.{arcs_to}
use Rattle.cov_predict.proofs.jumps.arcs_to_each.Given as goal

abbrev pub invariant-loop-end : goal.invariant-loop-end
invariant-loop-end l = l.out.items ++ arcs_to l.line (drop l.end-index l.ends) ≡ l.initial.out.items ++ arcs_to l.line l.ends
