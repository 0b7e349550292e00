use Rattle.std.proofs.Common.{ℕ, ap, refl, ◌∙◌}
use Rattle.cov_calls.specs.Views.{answered_view}
use Rattle.cov_calls.proofs.Handing.{hands-on-why}
use Rattle.cov_programs.specs.Objects.{beside}
use Rattle.cov_programs.proofs.Composing.{followed-so, goes-on, on-left}
use Rattle.cov_run.specs.Loads.{loaded_modules}
use Rattle.cov_runs.proofs.Lifting.{beside-shelf}
use Rattle.cov_step.specs.Commands.{usual_steps}
use Rattle.cov_step.specs.Mutating.{judged_in}
use Rattle.cov_step.specs.Names.{or_else}
use Rattle.cov_step.specs.Objects.{on_shelf, on_sink}
use Rattle.cov_streams.specs.Trials.{on_trial}
use Rattle.cov_suites.proofs.Asked.{number-or}
use Rattle.cov_mutates.proofs.mutating.mutate.Goals as goal

pub returns-in_err-loaded : goal.returns-in_err-loaded
returns-in_err-loaded g c =
    hands-on-why _ (judged_in (or_else c.args.budget usual_steps) c.args.file.now) answered_view
    (on-left (beside (on_shelf g.H.Shelf) on_trial) (on_sink g.O.Sink) _
    (on-left (on_shelf g.H.Shelf) on_trial tt c.in_err-loaded.ensures.follows))
    (λ ms. tt) _ c.from_residual.ensures

pub returns : goal.returns
returns g c =
    goes-on (judged_in (or_else c.args.budget usual_steps) c.args.file.now)
    (on-left (beside (on_shelf g.H.Shelf) on_trial) (on_sink g.O.Sink) _
    (on-left (on_shelf g.H.Shelf) on_trial tt c.in_ok-loaded.ensures.follows))
    (beside-shelf (on_shelf g.H.Shelf) on_trial (on_sink g.O.Sink) _
    (followed-so (beside on_trial (on_sink g.O.Sink))
    (ap (λ (most : ℕ). judged_in most c.args.file.now (loaded_modules c.in_ok-loaded.loaded)) (c.unwrap_or.ensures ∙ number-or c.args.budget usual_steps))
    refl c.judged_in.ensures))
