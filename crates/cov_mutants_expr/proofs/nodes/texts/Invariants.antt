use Rattle.std.proofs.Common.{◌≡◌, take}
use Rattle.cov_mutants_expr.proofs.nodes.texts.Given as goal

abbrev pub invariant-loop-x : goal.invariant-loop-x
invariant-loop-x l = l.out.items ≡ take l.x-index l.items
