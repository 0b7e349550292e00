use Rattle.cov_programs.specs.Objects.{beside}
use Rattle.cov_programs.proofs.Composing.{goes-on, on-left}
use Rattle.cov_step.specs.Objects.{on_shelf, on_sink, on_vault}
use Rattle.cov_streams.specs.Suites.{on_plugins}
use Rattle.cov_calls.specs.Views.{answered_view}
use Rattle.cov_calls.proofs.Handing.{hands-on-why}
use Rattle.cov_runs.proofs.Lifting.{beside-shelf}
use Rattle.cov_suites.specs.Rests.{targeted}
use Rattle.cov_suites.specs.Views.{asked_view}
use Rattle.cov_suites.proofs.suites.suite_by.Goals as goal

pub returns-in_err-loaded : goal.returns-in_err-loaded
returns-in_err-loaded g c =
    hands-on-why _ (targeted c.args.own.now (asked_view c.args.request.now) c.args.file.now) answered_view
    (on-left (beside (on_shelf g.H.Shelf) (on_vault g.V.Vault)) (beside (on_sink g.O.Sink) (on_plugins g.P.Plugin)) _
    (on-left (on_shelf g.H.Shelf) (on_vault g.V.Vault) _ c.in_err-loaded.ensures.follows))
    (λ ms. tt) _ c.from_residual.ensures

pub returns : goal.returns
returns g c =
    goes-on (targeted c.args.own.now (asked_view c.args.request.now) c.args.file.now)
    (on-left (beside (on_shelf g.H.Shelf) (on_vault g.V.Vault)) (beside (on_sink g.O.Sink) (on_plugins g.P.Plugin)) _
    (on-left (on_shelf g.H.Shelf) (on_vault g.V.Vault) _ c.in_ok-loaded.ensures.follows))
    (beside-shelf (on_shelf g.H.Shelf) (on_vault g.V.Vault) (beside (on_sink g.O.Sink) (on_plugins g.P.Plugin)) _ c.targeted.ensures)
