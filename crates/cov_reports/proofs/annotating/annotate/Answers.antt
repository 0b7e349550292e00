use Rattle.std.specs.Option.{option_copied}
use Rattle.cov_programs.proofs.Composing.{goes-on}
use Rattle.cov_reports.specs.Reports.{with_choice}
use Rattle.cov_calls.specs.Views.{answered_view}
use Rattle.cov_reports.proofs.Objects.{shelf-first}
use Rattle.cov_reports.proofs.Opening.{with_choice-open}
use Rattle.cov_calls.proofs.Handing.{hands-on-why}
use Rattle.cov_reports.proofs.annotating.annotate.Goals as goal

pub returns-in_err-settings : goal.returns-in_err-settings
returns-in_err-settings g c =
    hands-on-why _ (with_choice (option_copied c.args.data_file) c.args.path.now) answered_view
    (shelf-first g.H.Shelf g.V.Vault g.M.Maker g.O.Sink _ _ _ c.in_err-settings.ensures) (with_choice-open (option_copied c.args.data_file) c.args.path.now) _ c.from_residual.ensures

pub returns : goal.returns
returns g c =
    goes-on (with_choice (option_copied c.args.data_file) c.args.path.now)
    (shelf-first g.H.Shelf g.V.Vault g.M.Maker g.O.Sink _ _ _ c.in_ok-settings.ensures) c.with_choice.ensures
