use Rattle.cov_calls.specs.Views.{answered_view}
use Rattle.cov_calls.proofs.Handing.{hands-on-why}
use Rattle.cov_programs.proofs.Composing.{goes-on, on-left}
use Rattle.cov_step.specs.Objects.{on_err}
use Rattle.cov_step.specs.Step.{doing}
use Rattle.cov_app.specs.Objects.{on_all}
use Rattle.cov_app.proofs.Opening.{doing-open}
use Rattle.cov_app.proofs.Wide.{wide-words}
use Rattle.cov_app.proofs.step.answer.Goals as goal

pub returns-in_err-command : goal.returns-in_err-command
returns-in_err-command g c =
    hands-on-why _ doing answered_view (on-left (on_all g.H.Shelf g.V.Vault g.M.Maker g.I.Source g.O.Sink g.P.Plugin g.G.Engine) (on_err g.E.Sink) _ (wide-words g.H.Shelf g.V.Vault g.M.Maker g.I.Source g.O.Sink g.P.Plugin g.G.Engine _ _ _ _ c.in_err-command.ensures.follows)) doing-open _ c.from_residual.ensures

pub returns : goal.returns
returns g c = goes-on doing (on-left (on_all g.H.Shelf g.V.Vault g.M.Maker g.I.Source g.O.Sink g.P.Plugin g.G.Engine) (on_err g.E.Sink) _ (wide-words g.H.Shelf g.V.Vault g.M.Maker g.I.Source g.O.Sink g.P.Plugin g.G.Engine _ _ _ _ c.in_ok-command.ensures.follows)) c.run_command.ensures
