use Rattle.std.specs.Str.Lines.{lines}
use Rattle.std.proofs.Common.{ℕ, List, refl, ap}
use Rattle.cov_calls.specs.Views.{answered_view}
use Rattle.cov_calls.proofs.Handing.{hands-on-why}
use Rattle.cov_programs.proofs.Composing.{followed-so, goes-on, on-left}
use Rattle.cov_step.specs.Objects.{on_err}
use Rattle.cov_step.specs.Scripts.{lines_done}
use Rattle.cov_app.specs.Objects.{on_all, on_command}
use Rattle.cov_app.proofs.Opening.{lines-open}
use Rattle.cov_app.proofs.Wide.{wide-shelf}
use Rattle.cov_app.proofs.scripts.script.Goals as goal

pub returns-in_err-text : goal.returns-in_err-text
returns-in_err-text g c =
    hands-on-why _ (λ (text : List ℕ). lines_done (lines text)) answered_view (on-left (on_all g.H.Shelf g.V.Vault g.M.Maker g.I.Source g.O.Sink g.P.Plugin g.G.Engine) (on_err g.E.Sink) _ (wide-shelf g.H.Shelf g.V.Vault g.M.Maker g.I.Source g.O.Sink g.P.Plugin g.G.Engine _ _ _ c.in_err-text.ensures)) (λ text. lines-open (lines text)) _ c.from_residual.ensures

pub returns : goal.returns
returns g c =
    goes-on (λ (text : List ℕ). lines_done (lines text)) (on-left (on_all g.H.Shelf g.V.Vault g.M.Maker g.I.Source g.O.Sink g.P.Plugin g.G.Engine) (on_err g.E.Sink) _ (wide-shelf g.H.Shelf g.V.Vault g.M.Maker g.I.Source g.O.Sink g.P.Plugin g.G.Engine _ _ _ c.in_ok-text.ensures))
    (followed-so (on_command g.H.Shelf g.V.Vault g.M.Maker g.I.Source g.O.Sink g.P.Plugin g.G.Engine g.E.Sink) (ap (λ text. lines_done (lines text)) c.as_str.ensures.value) refl c.lines_done.ensures)
