use Rattle.std.proofs.Common.{ap, refl}
use Rattle.cov_programs.proofs.Composing.{followed-so, starves}
use Rattle.cov_step.specs.Calls.{Answered}
use Rattle.cov_step.specs.Objects.{on_vault}
use Rattle.cov_step.specs.Phases.{joined, save_last}
use Rattle.cov_runs.proofs.saving.saved.Goals as goal

pub returns-in-Ok : goal.returns-in-Ok
returns-in-Ok g c = followed-so (on_vault g.V.Vault) (ap (λ (a : Answered). save_last c.args.own.now (joined c.args.old c.args.m.rows) a) c.in-Ok.ensures) refl c.save_joined.ensures

pub returns-in-Err : goal.returns-in-Err
returns-in-Err g c = starves tt refl
