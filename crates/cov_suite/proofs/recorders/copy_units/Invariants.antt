use Rattle.std.proofs.Common.{◌≡◌, ◌++◌, drop}
use Rattle.cov_recorder.specs.Names.{names_of}
use Rattle.cov_suite.proofs.recorders.copy_units.Given as goal

abbrev pub invariant-loop-names : goal.invariant-loop-names
invariant-loop-names l = names_of l.copies.items ++ names_of (drop l.names-index l.units) ≡ names_of l.units
