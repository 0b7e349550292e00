use Rattle.cov_calls.proofs.Handing.{hands-on-why}
use Rattle.cov_programs.proofs.Composing.{goes-on, on-left}
use Rattle.cov_step.specs.Objects.{on_err}
use Rattle.cov_step.specs.Scripts.{ended_in}
use Rattle.cov_app.specs.Objects.{on_all}
use Rattle.cov_app.proofs.Wide.{wide-ended}
use Rattle.cov_app.proofs.scripts.inside_done.Goals as goal

pub returns-in_err-answered : goal.returns-in_err-answered
returns-in_err-answered g c = hands-on-why _ ended_in (λ _. tt {0}) (on-left (on_all g.H.Shelf g.V.Vault g.M.Maker g.I.Source g.O.Sink g.P.Plugin g.G.Engine) (on_err g.E.Sink) _ c.in_err-answered.ensures) (λ a. tt) _ c.from_residual.ensures

pub returns : goal.returns
returns g c = goes-on ended_in (on-left (on_all g.H.Shelf g.V.Vault g.M.Maker g.I.Source g.O.Sink g.P.Plugin g.G.Engine) (on_err g.E.Sink) _ c.in_ok-answered.ensures) (wide-ended g.H.Shelf g.V.Vault g.M.Maker g.I.Source g.O.Sink g.P.Plugin g.G.Engine g.E.Sink _ _ _ _ _ _ c.ended_in.ensures)
