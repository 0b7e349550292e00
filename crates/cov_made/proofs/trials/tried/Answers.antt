use Rattle.std.proofs.Common.{refl}
use Rattle.cov_programs.proofs.Composing.{starves}
use Rattle.cov_made.proofs.trials.tried.Goals as goal

pub possible_arcs-requires : goal.possible_arcs-requires
possible_arcs-requires c = c.requires.one

pub returns-in-Ok : goal.returns-in-Ok
returns-in-Ok c = c.run_with.ensures

pub returns-in-Err : goal.returns-in-Err
returns-in-Err c = starves tt refl
