use Rattle.std.proofs.Common.{◌∙◌, ap, refl, string_bytes, sym}
use Rattle.cov_programs.proofs.Composing.{followed-so}
use Rattle.cov_step.specs.Scripts.{inside}
use Rattle.cov_words.specs.Commands as plain
use Rattle.cov_words.specs.Plain.{command_view}
use Rattle.cov_app.specs.Objects.{on_all}
use Rattle.cov_app.proofs.Groups.{no-program}
use Rattle.cov_app.proofs.Wide.{wide-report, wide-arcs, wide-run, wide-suite, wide-made, wide-changes}
use Rattle.cov_app.proofs.inside.inside.Goals as goal

pub returns-in-Arcs : goal.returns-in-Arcs
returns-in-Arcs g c =
    followed-so (on_all g.H.Shelf g.V.Vault g.M.Maker g.I.Source g.O.Sink g.P.Plugin g.G.Engine)
    (ap (λ x. inside (command_view x)) (sym c.in-Arcs.is))
    refl
    (wide-arcs g.H.Shelf g.V.Vault g.M.Maker g.I.Source g.O.Sink g.P.Plugin g.G.Engine c.args.vault.now c.args.maker.now c.arcs.ensures)

pub returns-in-Run : goal.returns-in-Run
returns-in-Run g c =
    followed-so (on_all g.H.Shelf g.V.Vault g.M.Maker g.I.Source g.O.Sink g.P.Plugin g.G.Engine)
    (ap (λ x. inside (command_view x)) (sym c.in-Run.is))
    refl
    (wide-run g.H.Shelf g.V.Vault g.M.Maker g.I.Source g.O.Sink g.P.Plugin g.G.Engine c.args.maker.now c.run.ensures)

pub returns-in-Make : goal.returns-in-Make
returns-in-Make g c =
    followed-so (on_all g.H.Shelf g.V.Vault g.M.Maker g.I.Source g.O.Sink g.P.Plugin g.G.Engine)
    (ap (λ x. inside (command_view x)) (sym c.in-Make.is))
    refl
    (wide-made g.H.Shelf g.V.Vault g.M.Maker g.I.Source g.O.Sink g.P.Plugin g.G.Engine _ _ c.args.input.now c.args.plugins.now.items c.args.engine.now c.make.ensures.follows)

pub returns-in-Suite : goal.returns-in-Suite
returns-in-Suite g c =
    followed-so (on_all g.H.Shelf g.V.Vault g.M.Maker g.I.Source g.O.Sink g.P.Plugin g.G.Engine)
    (ap (λ x. inside (command_view x)) (sym c.in-Suite.is))
    refl
    (wide-suite g.H.Shelf g.V.Vault g.M.Maker g.I.Source g.O.Sink g.P.Plugin g.G.Engine c.args.maker.now c.args.input.now c.args.engine.now c.suite.ensures)

pub returns-in-Select : goal.returns-in-Select
returns-in-Select g c =
    followed-so (on_all g.H.Shelf g.V.Vault g.M.Maker g.I.Source g.O.Sink g.P.Plugin g.G.Engine)
    (ap (λ x. inside (plain.select c.in-Select.budget x c.as_str-in-Select.result.now)) c.as_str.ensures.value
    ∙ (ap (λ x. inside (plain.select c.in-Select.budget (string_bytes c.in-Select.old) x)) c.as_str-in-Select.ensures.value
    ∙ ap (λ x. inside (command_view x)) (sym c.in-Select.is)))
    refl
    (wide-changes g.H.Shelf g.V.Vault g.M.Maker g.I.Source g.O.Sink g.P.Plugin g.G.Engine c.args.vault.now c.args.maker.now c.args.input.now c.args.plugins.now.items c.args.engine.now c.select.ensures)

pub returns-in-Mutate : goal.returns-in-Mutate
returns-in-Mutate g c =
    followed-so (on_all g.H.Shelf g.V.Vault g.M.Maker g.I.Source g.O.Sink g.P.Plugin g.G.Engine)
    (ap (λ x. inside (plain.mutate c.in-Mutate.budget x)) c.as_str-in-Mutate.ensures.value
    ∙ ap (λ x. inside (command_view x)) (sym c.in-Mutate.is))
    refl
    (wide-changes g.H.Shelf g.V.Vault g.M.Maker g.I.Source g.O.Sink g.P.Plugin g.G.Engine c.args.vault.now c.args.maker.now c.args.input.now c.args.plugins.now.items c.args.engine.now c.mutate.ensures)

pub returns-in_default : goal.returns-in_default
returns-in_default g c =
    followed-so (on_all g.H.Shelf g.V.Vault g.M.Maker g.I.Source g.O.Sink g.P.Plugin g.G.Engine)
    (no-program _ c.in_default.not-Arcs c.in_default.not-Run c.in_default.not-Make c.in_default.not-Suite c.in_default.not-Select c.in_default.not-Mutate)
    refl
    (wide-report g.H.Shelf g.V.Vault g.M.Maker g.I.Source g.O.Sink g.P.Plugin g.G.Engine c.args.input.now c.args.plugins.now.items c.args.engine.now c.of_data.ensures)
