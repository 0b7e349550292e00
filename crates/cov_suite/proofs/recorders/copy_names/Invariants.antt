use Rattle.std.proofs.Common.{◌≡◌, ◌++◌, map, drop}
use Rattle.cov_recorder.specs.Plan.{named}
use Rattle.cov_suite.proofs.recorders.copy_names.Given as goal

abbrev pub invariant-loop-name : goal.invariant-loop-name
invariant-loop-name l = map named l.copies.items ++ map named (drop l.name-index l.names) ≡ map named l.names
