use Rattle.cov_programs.proofs.Composing.{goes-on}
use Rattle.cov_reports.specs.Reports.{write_report}
use Rattle.cov_calls.specs.Views.{answered_view}
use Rattle.cov_reports.proofs.Objects.{sources-first, sink-last}
use Rattle.cov_calls.proofs.Handing.{hands-on-why}
use Rattle.cov_reports.proofs.commands.report.Goals as goal

pub returns-in_err-findings : goal.returns-in_err-findings
returns-in_err-findings g c =
    hands-on-why _ (write_report c.args.show_missing c.args.fail_under) answered_view
    (sources-first g.H.Shelf g.V.Vault g.M.Maker g.O.Sink _ c.in_err-findings.ensures) (λ r. tt) _ c.from_residual.ensures

pub returns : goal.returns
returns g c =
    goes-on (write_report c.args.show_missing c.args.fail_under)
    (sources-first g.H.Shelf g.V.Vault g.M.Maker g.O.Sink _ c.in_ok-findings.ensures)
    (sink-last g.H.Shelf g.V.Vault g.M.Maker g.O.Sink _ c.write_report.ensures)
