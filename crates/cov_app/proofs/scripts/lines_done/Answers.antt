use Rattle.std.specs.Str.Lines.{lines}
use Rattle.std.proofs.Common.{◌∙◌, ℕ, List, map, Bor, refl, ap}
use Rattle.cov_programs.proofs.Composing.{followed-so, starves}
use Rattle.cov_step.specs.Scripts.{lines_done}
use Rattle.cov_app.specs.Objects.{on_command}
use Rattle.cov_app.proofs.Opening.{lines-open}
use Rattle.cov_app.proofs.scripts.lines_done.Goals as goal

pub returns-in-Ok : goal.returns-in-Ok
returns-in-Ok g c = followed-so (on_command g.H.Shelf g.V.Vault g.M.Maker g.I.Source g.O.Sink g.P.Plugin g.G.Engine g.E.Sink) (ap lines_done (ap (map (λ (w : Bor (List ℕ)). w.now)) c.as_slice.ensures.value ∙ c.in-Ok.ensures)) refl c.each_done.ensures

pub returns-in-Err : goal.returns-in-Err
returns-in-Err g c = starves (lines-open (lines c.args.text.now)) refl
