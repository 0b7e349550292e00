use Rattle.cov_config.specs.Plain.{settings_view}
use Rattle.cov_programs.proofs.Composing.{goes-on, on-left, on-right}
use Rattle.cov_step.specs.Objects.{on_shelf, on_vault}
use Rattle.cov_reports.specs.Reports.{with_data}
use Rattle.cov_calls.specs.Views.{lists_view}
use Rattle.cov_reports.specs.Views.{findings_view}
use Rattle.cov_reports.proofs.Opening.{with_data-open}
use Rattle.cov_calls.proofs.Handing.{hands-on-why}
use Rattle.cov_reports.proofs.reported.with_patterns.Goals as goal

pub returns-in_err-recorded : goal.returns-in_err-recorded
returns-in_err-recorded g c =
    let s = settings_view c.args.settings in
    let p = lists_view c.args.patterns.now in
    hands-on-why _ (with_data s p c.args.name.now) findings_view
    (on-right (on_shelf g.H.Shelf) (on_vault g.V.Vault) _ c.in_err-recorded.ensures) (with_data-open s p c.args.name.now) _ c.from_residual.ensures

pub returns : goal.returns
returns g c =
    goes-on (with_data (settings_view c.args.settings) (lists_view c.args.patterns.now) c.args.name.now)
    (on-right (on_shelf g.H.Shelf) (on_vault g.V.Vault) _ c.in_ok-recorded.ensures)
    (on-left (on_shelf g.H.Shelf) (on_vault g.V.Vault) _ c.with_data.ensures)
