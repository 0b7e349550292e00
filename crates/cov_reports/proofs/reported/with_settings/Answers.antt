use Rattle.std.proofs.Common.{◌∙◌, ap, refl}
use Rattle.std.specs.Option.{option_copied}
use Rattle.cov_config.specs.Plain.{settings_view}
use Rattle.cov_programs.proofs.Composing.{followed-so, goes-on, on-left, on-right}
use Rattle.cov_step.specs.Objects.{on_maker}
use Rattle.cov_step.specs.Phases.{own_name, reported_in}
use Rattle.cov_reports.specs.Objects.{on_data}
use Rattle.cov_calls.specs.Views.{lists_view}
use Rattle.cov_reports.specs.Views.{findings_view}
use Rattle.cov_calls.proofs.Handing.{hands-on-why}
use Rattle.cov_reports.proofs.Opening.{wants-memory}
use Rattle.cov_reports.proofs.reported.with_settings.Goals as goal

pub returns-in_err-patterns : goal.returns-in_err-patterns
returns-in_err-patterns g c =
    hands-on-why _ (λ p. reported_in (settings_view c.args.settings) p (own_name (option_copied c.args.data_file) (settings_view c.args.settings))) findings_view
    (on-right (on_data g.H.Shelf g.V.Vault) (on_maker g.M.Maker) _ c.in_err-patterns.ensures) (λ p. tt) _ c.from_residual.ensures

pub returns-in-Ok : goal.returns-in-Ok
returns-in-Ok g c =
    let s = settings_view c.args.settings in
    goes-on (λ p. reported_in s p (own_name (option_copied c.args.data_file) s))
    (on-right (on_data g.H.Shelf g.V.Vault) (on_maker g.M.Maker) _ c.in_ok-patterns.ensures)
    (on-left (on_data g.H.Shelf g.V.Vault) (on_maker g.M.Maker) _
    (followed-so (on_data g.H.Shelf g.V.Vault) (ap (reported_in s (lists_view c.in_ok-patterns.patterns)) (c.as_str.ensures.value ∙ c.in-Ok.ensures)) refl c.with_patterns.ensures))

pub returns-in-Err : goal.returns-in-Err
returns-in-Err g c =
    goes-on (λ p. reported_in (settings_view c.args.settings) p (own_name (option_copied c.args.data_file) (settings_view c.args.settings)))
    (on-right (on_data g.H.Shelf g.V.Vault) (on_maker g.M.Maker) _ c.in_ok-patterns.ensures) (wants-memory _ tt)
