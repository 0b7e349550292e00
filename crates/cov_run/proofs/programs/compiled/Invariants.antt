use Rattle.cov_run.specs.View.{plain_sources}
use Rattle.cov_run.proofs.Compiling.{AreBeside}
use Rattle.cov_run.proofs.programs.compiled.Given as goal

abbrev pub invariant-loop-source : goal.invariant-loop-source
invariant-loop-source l = AreBeside l.programs.items l.modules.items (plain_sources l.yielded)
