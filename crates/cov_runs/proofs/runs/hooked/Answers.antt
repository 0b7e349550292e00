use Rattle.std.proofs.Common.{ap, refl}
use Rattle.cov_programs.specs.Objects.{beside}
use Rattle.cov_programs.proofs.Composing.{followed-so, goes-on, on-left}
use Rattle.cov_run.specs.Loads.{loaded_modules}
use Rattle.cov_step.specs.Objects.{on_shelf, on_vault}
use Rattle.cov_step.specs.Phases.{hook_of}
use Rattle.cov_streams.specs.Objects.{on_run}
use Rattle.cov_calls.specs.Views.{answered_view}
use Rattle.cov_calls.proofs.Handing.{hands-on-why}
use Rattle.cov_runs.specs.Rests.{targeted}
use Rattle.cov_runs.proofs.Hooking.{hook-found, hook-refused}
use Rattle.cov_runs.proofs.Lifting.{beside-shelf}
use Rattle.cov_runs.proofs.runs.hooked.Goals as goal

pub returns-in_err-hook : goal.returns-in_err-hook
returns-in_err-hook g c = λ asked hook script r.
    hands-on-why _ (targeted c.args.own.now c.args.append asked (loaded_modules c.args.loaded.now)) answered_view
    (on-left (beside (on_shelf g.H.Shelf) (on_vault g.V.Vault)) (on_run g.I.Source g.O.Sink g.P.Plugin g.G.Engine) _
    (on-left (on_shelf g.H.Shelf) (on_vault g.V.Vault) _ (followed-so (on_shelf g.H.Shelf) (ap hook_of r.hook) refl (hook-refused (on_shelf g.H.Shelf) _ _ _ _ c.in_err-hook.ensures))))
    (λ h. tt) _ c.from_residual.ensures

pub returns : goal.returns
returns g c = λ asked hook script r.
    let f = hook-found (on_shelf g.H.Shelf) _ _ _ _ c.in_ok-hook.ensures in
    goes-on (targeted c.args.own.now c.args.append asked (loaded_modules c.args.loaded.now))
    (on-left (beside (on_shelf g.H.Shelf) (on_vault g.V.Vault)) (on_run g.I.Source g.O.Sink g.P.Plugin g.G.Engine) _
    (on-left (on_shelf g.H.Shelf) (on_vault g.V.Vault) _ (followed-so (on_shelf g.H.Shelf) (ap hook_of r.hook) refl f.follows)))
    (beside-shelf (on_shelf g.H.Shelf) (on_vault g.V.Vault) (on_run g.I.Source g.O.Sink g.P.Plugin g.G.Engine) _ (c.targeted.ensures asked f.files hook script r f.is))
