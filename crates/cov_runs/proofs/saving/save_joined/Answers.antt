use Rattle.std.proofs.Common.{ap, refl}
use Rattle.cov_data.specs.DataSet.{DataSet}
use Rattle.cov_programs.proofs.Composing.{followed-so, starves}
use Rattle.cov_step.specs.Objects.{on_vault}
use Rattle.cov_step.specs.Phases.{save_last}
use Rattle.cov_calls.specs.Views.{answered_view}
use Rattle.cov_runs.proofs.saving.save_joined.Goals as goal

pub returns-in-Ok : goal.returns-in-Ok
returns-in-Ok g c = followed-so (on_vault g.V.Vault) (ap (λ (d : DataSet). save_last c.args.own.now d (answered_view c.args.answered)) c.in-Ok.ensures) refl c.save_last.ensures

pub returns-in-Err : goal.returns-in-Err
returns-in-Err g c = starves tt refl
