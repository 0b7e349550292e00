use Rattle.std.proofs.Common.{ap, refl, ◌∙◌}
use Rattle.cov_calls.specs.Views.{answered_view}
use Rattle.cov_calls.proofs.Handing.{hands-on-why}
use Rattle.cov_programs.specs.Objects.{beside}
use Rattle.cov_programs.proofs.Composing.{followed-so, goes-on, on-left}
use Rattle.cov_run.specs.Loads.{loaded_modules}
use Rattle.cov_step.specs.Commands.{usual_steps}
use Rattle.cov_step.specs.Names.{or_else}
use Rattle.cov_step.specs.Objects.{on_shelf, on_sink}
use Rattle.cov_streams.specs.Trials.{on_trial}
use Rattle.cov_suites.proofs.Asked.{number-or}
use Rattle.cov_selects.specs.Rests.{after_old}
use Rattle.cov_selects.proofs.selecting.select.Goals as goal

pub returns-in_err-before : goal.returns-in_err-before
returns-in_err-before g c =
    hands-on-why _ (after_old (or_else c.args.budget usual_steps) c.args.old.now c.args.new.now) answered_view
    (on-left (beside (on_shelf g.H.Shelf) on_trial) (on_sink g.O.Sink) _ (on-left (on_shelf g.H.Shelf) on_trial _ c.in_err-before.ensures.follows))
    (λ ms. tt) _ c.from_residual.ensures

pub returns : goal.returns
returns g c =
    goes-on (after_old (or_else c.args.budget usual_steps) c.args.old.now c.args.new.now)
    (on-left (beside (on_shelf g.H.Shelf) on_trial) (on_sink g.O.Sink) _ (on-left (on_shelf g.H.Shelf) on_trial _ c.in_ok-before.ensures.follows))
    (followed-so (beside (beside (on_shelf g.H.Shelf) on_trial) (on_sink g.O.Sink))
    (ap (λ most. after_old most c.args.old.now c.args.new.now (loaded_modules c.in_ok-before.before)) (c.unwrap_or-most.ensures ∙ number-or c.args.budget usual_steps)) refl c.select_after.ensures)
