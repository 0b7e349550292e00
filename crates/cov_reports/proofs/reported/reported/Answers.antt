use Rattle.std.specs.Option.{option_copied}
use Rattle.cov_programs.proofs.Composing.{goes-on, on-left}
use Rattle.cov_step.specs.Objects.{on_shelf, on_vault, on_maker}
use Rattle.cov_reports.specs.Objects.{on_data}
use Rattle.cov_reports.specs.Reports.{with_settings}
use Rattle.cov_reports.specs.Views.{findings_view}
use Rattle.cov_reports.proofs.Opening.{with_settings-open}
use Rattle.cov_calls.proofs.Handing.{hands-on-why}
use Rattle.cov_reports.proofs.reported.reported.Goals as goal

pub returns-in_err-settings : goal.returns-in_err-settings
returns-in_err-settings g c =
    hands-on-why _ (with_settings (option_copied c.args.data_file)) findings_view
    (on-left (on_data g.H.Shelf g.V.Vault) (on_maker g.M.Maker) _ (on-left (on_shelf g.H.Shelf) (on_vault g.V.Vault) _ c.in_err-settings.ensures))
    (with_settings-open (option_copied c.args.data_file)) _ c.from_residual.ensures

pub returns : goal.returns
returns g c =
    goes-on (with_settings (option_copied c.args.data_file))
    (on-left (on_data g.H.Shelf g.V.Vault) (on_maker g.M.Maker) _ (on-left (on_shelf g.H.Shelf) (on_vault g.V.Vault) _ c.in_ok-settings.ensures))
    c.with_settings.ensures
