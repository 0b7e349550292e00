use Rattle.std.proofs.Common.{◌≡◌, ◌++◌, drop, map}
use Rattle.cov_mutate.proofs.Ran.{possible_in}
use Rattle.cov_mutate.proofs.sets.possible_sets.Given as goal

abbrev pub invariant-loop-module : goal.invariant-loop-module
invariant-loop-module l = l.sets.items ++ map possible_in (drop l.module-index l.modules) ≡ map possible_in l.modules
