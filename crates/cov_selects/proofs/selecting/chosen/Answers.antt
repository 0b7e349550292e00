use Rattle.std.proofs.Common.{refl}
use Rattle.cov_programs.proofs.Composing.{asks, on-nobody}
use Rattle.cov_streams.specs.Trials.{on_trial}
use Rattle.cov_selects.specs.Views.{came_of}
use Rattle.cov_selects.proofs.selecting.chosen.Goals as goal

pub returns : goal.returns
returns c = asks (came_of c.chosen_tests.result) tt (record { selected = c.chosen_tests.ensures; same = refl }) (on-nobody on_trial _ c.came.ensures)
