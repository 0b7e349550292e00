use Rattle.cov_calls.proofs.Handing.{hands-on-why}
use Rattle.cov_programs.proofs.Composing.{goes-on, on-left}
use Rattle.cov_step.specs.Objects.{on_err}
use Rattle.cov_app.specs.Objects.{on_all}
use Rattle.cov_app.specs.Spelled.{inside_done}
use Rattle.cov_app.proofs.Opening.{inside_done-open}
use Rattle.cov_app.proofs.Wide.{wide-words}
use Rattle.cov_app.proofs.scripts.line_done.Goals as goal

pub returns-in_err-command : goal.returns-in_err-command
returns-in_err-command g c =
    hands-on-why _ inside_done (λ _. tt {0}) (on-left (on_all g.H.Shelf g.V.Vault g.M.Maker g.I.Source g.O.Sink g.P.Plugin g.G.Engine) (on_err g.E.Sink) _ (wide-words g.H.Shelf g.V.Vault g.M.Maker g.I.Source g.O.Sink g.P.Plugin g.G.Engine _ _ _ _ c.in_err-command.ensures.follows)) inside_done-open _ c.from_residual.ensures

pub returns : goal.returns
returns g c = goes-on inside_done (on-left (on_all g.H.Shelf g.V.Vault g.M.Maker g.I.Source g.O.Sink g.P.Plugin g.G.Engine) (on_err g.E.Sink) _ (wide-words g.H.Shelf g.V.Vault g.M.Maker g.I.Source g.O.Sink g.P.Plugin g.G.Engine _ _ _ _ c.in_ok-command.ensures.follows)) c.inside_done.ensures
