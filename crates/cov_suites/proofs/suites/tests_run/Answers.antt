use Rattle.cov_programs.specs.Objects.{beside}
use Rattle.cov_programs.proofs.Composing.{goes-on, on-right}
use Rattle.cov_step.specs.Objects.{on_sink, on_vault}
use Rattle.cov_streams.specs.Suites.{on_plugins}
use Rattle.cov_calls.specs.Views.{answered_view}
use Rattle.cov_calls.proofs.Handing.{hands-on-why}
use Rattle.cov_suites.specs.Rests.{ended}
use Rattle.cov_suites.proofs.Beside.{beside-plugins}
use Rattle.cov_suites.proofs.suites.tests_run.Goals as goal

pub returns-in_err-run : goal.returns-in_err-run
returns-in_err-run g c =
    hands-on-why _ (ended c.args.own.now) answered_view
    (on-right (on_vault g.V.Vault) (beside (on_sink g.O.Sink) (on_plugins g.P.Plugin)) _ (on-right (on_sink g.O.Sink) (on_plugins g.P.Plugin) _ c.in_err-run.ensures))
    (λ r. tt) _ c.from_residual.ensures

pub returns : goal.returns
returns g c =
    goes-on (ended c.args.own.now)
    (on-right (on_vault g.V.Vault) (beside (on_sink g.O.Sink) (on_plugins g.P.Plugin)) _ (on-right (on_sink g.O.Sink) (on_plugins g.P.Plugin) _ c.in_ok-run.ensures))
    (beside-plugins (on_vault g.V.Vault) (on_sink g.O.Sink) (on_plugins g.P.Plugin) _ c.ended.ensures)
