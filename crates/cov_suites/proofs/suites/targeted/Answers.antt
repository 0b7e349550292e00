use Rattle.cov_programs.specs.Objects.{beside}
use Rattle.cov_programs.proofs.Composing.{goes-on, on-left}
use Rattle.cov_run.specs.Loads.{loaded_modules}
use Rattle.cov_step.specs.Answers.{Before}
use Rattle.cov_step.specs.Objects.{on_sink, on_vault}
use Rattle.cov_step.specs.Testing.{tests_run}
use Rattle.cov_streams.specs.Suites.{on_plugins}
use Rattle.cov_calls.specs.Views.{answered_view}
use Rattle.cov_calls.proofs.Handing.{hands-on-why}
use Rattle.cov_suites.specs.Views.{asked_view}
use Rattle.cov_suites.proofs.suites.targeted.Goals as goal

pub returns-in_err-was : goal.returns-in_err-was
returns-in_err-was g c =
    hands-on-why _ (λ (was : Before). tests_run c.args.own.now (asked_view c.args.request.now) c.args.file.now (loaded_modules c.args.loaded.now)) answered_view
    (on-left (on_vault g.V.Vault) (beside (on_sink g.O.Sink) (on_plugins g.P.Plugin)) _ c.in_err-was.ensures)
    (λ was. tt) _ c.from_residual.ensures

pub returns : goal.returns
returns g c =
    goes-on (λ (was : Before). tests_run c.args.own.now (asked_view c.args.request.now) c.args.file.now (loaded_modules c.args.loaded.now))
    (on-left (on_vault g.V.Vault) (beside (on_sink g.O.Sink) (on_plugins g.P.Plugin)) _ c.in_ok-was.ensures)
    c.tests_run.ensures
