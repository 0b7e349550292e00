use Rattle.std.proofs.Common.{◌≡◌, take}
use Rattle.cov_suite.proofs.names.NameSet.names.Given as goal

abbrev pub invariant-loop-name : goal.invariant-loop-name
invariant-loop-name l = l.names.items ≡ take l.name-index l.all
