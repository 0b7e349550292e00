use Rattle.std.proofs.Common.{ap, refl, sym, ◌∙◌}
use Rattle.cov_programs.proofs.Composing.{followed-so, on-left}
use Rattle.cov_step.specs.Objects.{on_err}
use Rattle.cov_step.specs.Scripts.{script}
use Rattle.cov_step.specs.Step.{doing}
use Rattle.cov_words.specs.Plain.{command_view}
use Rattle.cov_app.specs.Objects.{on_all, on_command}
use Rattle.cov_app.proofs.Groups.{no-script}
use Rattle.cov_app.proofs.step.run_command.Goals as goal

pub returns-in-Script : goal.returns-in-Script
returns-in-Script g c =
    followed-so (on_command g.H.Shelf g.V.Vault g.M.Maker g.I.Source g.O.Sink g.P.Plugin g.G.Engine g.E.Sink) (ap script c.as_str.ensures.value ∙ ap (λ x. doing (command_view x)) (sym c.in-Script.is)) refl c.script.ensures

pub returns-in_default : goal.returns-in_default
returns-in_default g c =
    followed-so (on_command g.H.Shelf g.V.Vault g.M.Maker g.I.Source g.O.Sink g.P.Plugin g.G.Engine g.E.Sink) (no-script _ c.in_default.not-Script) refl (on-left (on_all g.H.Shelf g.V.Vault g.M.Maker g.I.Source g.O.Sink g.P.Plugin g.G.Engine) (on_err g.E.Sink) _ c.inside.ensures)
