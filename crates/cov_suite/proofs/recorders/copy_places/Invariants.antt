use Rattle.std.proofs.Common.{◌≡◌, take}
use Rattle.cov_suite.proofs.recorders.copy_places.Given as goal

abbrev pub invariant-loop-set : goal.invariant-loop-set
invariant-loop-set l = l.copies.items ≡ take l.set-index l.places
