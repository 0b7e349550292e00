use Rattle.std.proofs.Common.{ap, refl, ◌∙◌}
use Rattle.cov_programs.specs.Objects.{beside}
use Rattle.cov_programs.proofs.Composing.{followed-so, goes-on, on-left}
use Rattle.cov_step.specs.Objects.{on_shelf, on_vault}
use Rattle.cov_step.specs.Phases.{main_name, opened}
use Rattle.cov_streams.specs.Objects.{on_run}
use Rattle.cov_calls.specs.Views.{answered_view}
use Rattle.cov_calls.proofs.Handing.{hands-on-why}
use Rattle.cov_runs.specs.Rests.{hooked}
use Rattle.cov_runs.proofs.Beginnings.{hooked-open}
use Rattle.cov_runs.proofs.runs.run_by.Goals as goal

pub returns-in_err-loaded : goal.returns-in_err-loaded
returns-in_err-loaded g c = λ asked hook script r.
    hands-on-why _ (hooked c.args.own.now c.args.append asked hook) answered_view
    (on-left (beside (on_shelf g.H.Shelf) (on_vault g.V.Vault)) (on_run g.I.Source g.O.Sink g.P.Plugin g.G.Engine) _
    (on-left (on_shelf g.H.Shelf) (on_vault g.V.Vault) _ (followed-so (on_shelf g.H.Shelf) (ap (opened main_name) (c.as_str.ensures.value ∙ r.script)) refl c.in_err-loaded.ensures.follows)))
    (hooked-open c.args.own.now c.args.append asked hook) _ c.from_residual.ensures

pub returns : goal.returns
returns g c = λ asked hook script r.
    goes-on (hooked c.args.own.now c.args.append asked hook)
    (on-left (beside (on_shelf g.H.Shelf) (on_vault g.V.Vault)) (on_run g.I.Source g.O.Sink g.P.Plugin g.G.Engine) _
    (on-left (on_shelf g.H.Shelf) (on_vault g.V.Vault) _ (followed-so (on_shelf g.H.Shelf) (ap (opened main_name) (c.as_str.ensures.value ∙ r.script)) refl c.in_ok-loaded.ensures.follows)))
    (c.hooked.ensures asked hook script r)
