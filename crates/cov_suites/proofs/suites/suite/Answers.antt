use Rattle.std.proofs.Common.{ap, option_map, refl, string_bytes, ◌∙◌}
use Rattle.cov_config.specs.Plain.{settings_view}
use Rattle.cov_programs.specs.Objects.{beside}
use Rattle.cov_programs.proofs.Composing.{followed-so, goes-on, on-left, starves}
use Rattle.cov_step.specs.Calls.{TestsAsked}
use Rattle.cov_step.specs.Objects.{on_shelf, on_sink, on_vault}
use Rattle.cov_step.specs.Phases.{own_name, settings}
use Rattle.cov_step.specs.Testing.{suite_by}
use Rattle.cov_streams.specs.Suites.{on_plugins}
use Rattle.cov_words.specs.Values.{Word}
use Rattle.cov_calls.specs.Views.{answered_view}
use Rattle.cov_calls.proofs.Handing.{hands-on-why}
use Rattle.cov_suites.specs.Rests.{suite_set}
use Rattle.cov_suites.specs.Views.{asked_view, on_suite}
use Rattle.cov_suites.proofs.suites.suite.Goals as goal

pub returns-in_err-found : goal.returns-in_err-found
returns-in_err-found g c =
    let w = c.args.words in
    hands-on-why _ (suite_set w.branch w.budget (option_map string_bytes w.data_file) (string_bytes w.file)) answered_view
    (on-left (beside (on_shelf g.H.Shelf) (on_vault g.V.Vault)) (beside (on_sink g.O.Sink) (on_plugins g.P.Plugin)) _
    (on-left (on_shelf g.H.Shelf) (on_vault g.V.Vault) _ (followed-so (on_shelf g.H.Shelf) (ap settings c.as_deref.ensures.value) refl c.in_err-found.ensures)))
    (λ s. tt) _ c.from_residual.ensures

pub returns-in-Ok : goal.returns-in-Ok
returns-in-Ok g c =
    let w = c.args.words in
    let s = settings_view c.in_ok-found.found in
    goes-on (suite_set w.branch w.budget (option_map string_bytes w.data_file) (string_bytes w.file))
    (on-left (beside (on_shelf g.H.Shelf) (on_vault g.V.Vault)) (beside (on_sink g.O.Sink) (on_plugins g.P.Plugin)) _
    (on-left (on_shelf g.H.Shelf) (on_vault g.V.Vault) _ (followed-so (on_shelf g.H.Shelf) (ap settings c.as_deref.ensures.value) refl c.in_ok-found.ensures)))
    (followed-so (on_suite g.H.Shelf g.V.Vault g.O.Sink g.P.Plugin)
    (ap (λ (own : Word). suite_by own (asked_view c.request_of-request.result) c.as_str-in-Ok.result.now) (c.as_str.ensures.value ∙ c.in-Ok.ensures ∙ ap (λ name. own_name name s) c.as_deref-2.ensures.value)
    ∙ ap (λ (asked : TestsAsked). suite_by (own_name (option_map string_bytes w.data_file) s) asked c.as_str-in-Ok.result.now) c.request_of-request.ensures
    ∙ ap (suite_by (own_name (option_map string_bytes w.data_file) s) _) c.as_str-in-Ok.ensures.value)
    refl c.suite_by.ensures)

pub returns : goal.returns
returns g c =
    let w = c.args.words in
    goes-on (suite_set w.branch w.budget (option_map string_bytes w.data_file) (string_bytes w.file))
    (on-left (beside (on_shelf g.H.Shelf) (on_vault g.V.Vault)) (beside (on_sink g.O.Sink) (on_plugins g.P.Plugin)) _
    (on-left (on_shelf g.H.Shelf) (on_vault g.V.Vault) _ (followed-so (on_shelf g.H.Shelf) (ap settings c.as_deref.ensures.value) refl c.in_ok-found.ensures)))
    (starves tt refl)
