use Rattle.std.specs.Option.{option_copied}
use Rattle.cov_config.specs.Settings.{Settings}
use Rattle.cov_programs.proofs.Composing.{goes-on, on-left, on-right}
use Rattle.cov_step.specs.Objects.{on_shelf, on_vault}
use Rattle.cov_step.specs.Phases.{done, own_name, remove_last}
use Rattle.cov_calls.specs.Views.{answered_view}
use Rattle.cov_calls.proofs.Handing.{hands-on-why}
use Rattle.cov_joins.proofs.erasing.erase.Goals as goal

pub returns-in_err-settings : goal.returns-in_err-settings
returns-in_err-settings g c =
    hands-on-why _ (λ (s : Settings). remove_last (own_name (option_copied c.args.data_file) s) done) answered_view (on-left (on_shelf g.H.Shelf) (on_vault g.V.Vault) _ c.in_err-settings.ensures) (λ s. tt) _ c.from_residual.ensures

pub returns : goal.returns
returns g c =
    goes-on (λ (s : Settings). remove_last (own_name (option_copied c.args.data_file) s) done) (on-left (on_shelf g.H.Shelf) (on_vault g.V.Vault) _ c.in_ok-settings.ensures)
    (on-right (on_shelf g.H.Shelf) (on_vault g.V.Vault) _ c.erase_by.ensures)
