use Rattle.std.proofs.Common.{refl}
use Rattle.cov_programs.proofs.Composing.{starves}
use Rattle.cov_made.proofs.trials.run_with.Goals as goal

pub returns-in-Ok : goal.returns-in-Ok
returns-in-Ok c = c.run_alone.ensures

pub returns-in-Err : goal.returns-in-Err
returns-in-Err c = starves tt refl
