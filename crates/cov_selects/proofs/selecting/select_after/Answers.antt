use Rattle.cov_calls.specs.Views.{answered_view}
use Rattle.cov_calls.proofs.Handing.{hands-on-why}
use Rattle.cov_programs.specs.Objects.{beside}
use Rattle.cov_programs.proofs.Composing.{goes-on, on-left}
use Rattle.cov_run.specs.Loads.{loaded_modules}
use Rattle.cov_runs.proofs.Lifting.{beside-shelf}
use Rattle.cov_step.specs.Objects.{on_shelf, on_sink}
use Rattle.cov_step.specs.Selecting.{selected_in}
use Rattle.cov_streams.specs.Trials.{on_trial}
use Rattle.cov_selects.proofs.selecting.select_after.Goals as goal

pub returns-in_err-after : goal.returns-in_err-after
returns-in_err-after g c =
    hands-on-why _ (selected_in c.args.most c.args.old.now (loaded_modules c.args.before.now)) answered_view
    (on-left (beside (on_shelf g.H.Shelf) on_trial) (on_sink g.O.Sink) _ (on-left (on_shelf g.H.Shelf) on_trial _ c.in_err-after.ensures.follows))
    (λ ms. tt) _ c.from_residual.ensures

pub returns : goal.returns
returns g c =
    goes-on (selected_in c.args.most c.args.old.now (loaded_modules c.args.before.now))
    (on-left (beside (on_shelf g.H.Shelf) on_trial) (on_sink g.O.Sink) _ (on-left (on_shelf g.H.Shelf) on_trial _ c.in_ok-after.ensures.follows))
    (beside-shelf (on_shelf g.H.Shelf) on_trial (on_sink g.O.Sink) _ c.selected.ensures)
