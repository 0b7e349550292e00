use Rattle.cov_programs.proofs.Composing.{goes-on, on-left, on-right}
use Rattle.cov_step.specs.Objects.{on_shelf, on_vault, on_sink}
use Rattle.cov_reports.specs.Objects.{on_data}
use Rattle.cov_reports.specs.Reports.{with_source}
use Rattle.cov_calls.specs.Views.{answered_view, lists_view}
use Rattle.cov_reports.proofs.Objects.{past}
use Rattle.cov_calls.proofs.Handing.{hands-on-why}
use Rattle.cov_reports.proofs.annotating.with_marks.Goals as goal

pub returns-in_err-recorded : goal.returns-in_err-recorded
returns-in_err-recorded g c =
    hands-on-why _ (with_source (lists_view c.args.patterns.now) c.args.path.now) answered_view
    (on-left (on_data g.H.Shelf g.V.Vault) (on_sink g.O.Sink) _ (on-right (on_shelf g.H.Shelf) (on_vault g.V.Vault) _ c.in_err-recorded.ensures)) (λ d. tt) _ c.from_residual.ensures

pub returns : goal.returns
returns g c =
    goes-on (with_source (lists_view c.args.patterns.now) c.args.path.now)
    (on-left (on_data g.H.Shelf g.V.Vault) (on_sink g.O.Sink) _ (on-right (on_shelf g.H.Shelf) (on_vault g.V.Vault) _ c.in_ok-recorded.ensures))
    (past (on_shelf g.H.Shelf) (on_vault g.V.Vault) (on_sink g.O.Sink) _ c.with_source.ensures)
