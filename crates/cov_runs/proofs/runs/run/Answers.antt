use Rattle.std.proofs.Common.{ap, map, option_map, refl, string_bytes, ◌∙◌}
use Rattle.cov_config.specs.Plain.{hook_view, settings_view}
use Rattle.cov_programs.specs.Objects.{beside}
use Rattle.cov_programs.proofs.Composing.{followed-so, goes-on, on-left, starves}
use Rattle.cov_step.specs.Commands.{asked_by, hook_named, run_by}
use Rattle.cov_step.specs.Objects.{on_shelf, on_vault}
use Rattle.cov_step.specs.Phases.{own_name, settings}
use Rattle.cov_streams.specs.Objects.{on_run}
use Rattle.cov_words.specs.Values.{Word}
use Rattle.cov_calls.specs.Views.{answered_view}
use Rattle.cov_calls.proofs.Handing.{hands-on-why}
use Rattle.cov_runs.specs.Rests.{run_set}
use Rattle.cov_runs.proofs.runs.run.Goals as goal

pub returns-in_err-found : goal.returns-in_err-found
returns-in_err-found g c =
    let w = c.args.words in
    hands-on-why _ (run_set w.branch w.append (option_map string_bytes w.context) w.budget (hook_view w.hook) (option_map string_bytes w.data_file) (string_bytes w.script) (map string_bytes w.args.items)) answered_view
    (on-left (beside (on_shelf g.H.Shelf) (on_vault g.V.Vault)) (on_run g.I.Source g.O.Sink g.P.Plugin g.G.Engine) _
    (on-left (on_shelf g.H.Shelf) (on_vault g.V.Vault) _ (followed-so (on_shelf g.H.Shelf) (ap settings c.as_deref.ensures.value) refl c.in_err-found.ensures)))
    (λ s. tt) _ c.from_residual.ensures

pub returns-in-Ok : goal.returns-in-Ok
returns-in-Ok g c =
    let w = c.args.words in
    let s = settings_view c.in_ok-found.found in
    let asked = asked_by s w.branch (option_map string_bytes w.context) w.budget (string_bytes w.script) (map string_bytes w.args.items) in
    let hook = hook_named (hook_view w.hook) s.run.hook in
    goes-on (run_set w.branch w.append (option_map string_bytes w.context) w.budget (hook_view w.hook) (option_map string_bytes w.data_file) (string_bytes w.script) (map string_bytes w.args.items))
    (on-left (beside (on_shelf g.H.Shelf) (on_vault g.V.Vault)) (on_run g.I.Source g.O.Sink g.P.Plugin g.G.Engine) _
    (on-left (on_shelf g.H.Shelf) (on_vault g.V.Vault) _ (followed-so (on_shelf g.H.Shelf) (ap settings c.as_deref.ensures.value) refl c.in_ok-found.ensures)))
    (followed-so (beside (beside (on_shelf g.H.Shelf) (on_vault g.V.Vault)) (on_run g.I.Source g.O.Sink g.P.Plugin g.G.Engine))
    (ap (λ (own : Word). run_by own w.append asked hook (string_bytes w.script)) (c.as_str.ensures.value ∙ c.in-Ok.ensures ∙ ap (λ name. own_name name s) c.as_deref-2.ensures.value))
    refl (c.run_by.ensures asked hook (string_bytes w.script) c.request_of-request.ensures))

pub returns-in-Err : goal.returns-in-Err
returns-in-Err g c =
    let w = c.args.words in
    goes-on (run_set w.branch w.append (option_map string_bytes w.context) w.budget (hook_view w.hook) (option_map string_bytes w.data_file) (string_bytes w.script) (map string_bytes w.args.items))
    (on-left (beside (on_shelf g.H.Shelf) (on_vault g.V.Vault)) (on_run g.I.Source g.O.Sink g.P.Plugin g.G.Engine) _
    (on-left (on_shelf g.H.Shelf) (on_vault g.V.Vault) _ (followed-so (on_shelf g.H.Shelf) (ap settings c.as_deref.ensures.value) refl c.in_ok-found.ensures)))
    (starves tt refl)
