use Rattle.std.proofs.Common.{◌≡◌, ◌++◌, drop}
use Rattle.cov_recorder.specs.Names.{names_of}
use Rattle.cov_measure_laws.specs.Units.{program_units}
use Rattle.cov_measure_laws.proofs.naming.units_of.Given as goal

abbrev pub invariant-loop-program : goal.invariant-loop-program
invariant-loop-program l =
    names_of l.units.items ++ program_units (drop l.program-index l.programs.modules.items) ≡ program_units l.programs.modules.items
