use Rattle.cov_config.specs.Plain.{settings_view}
use Rattle.cov_programs.proofs.Composing.{goes-on, on-nobody}
use Rattle.cov_step.specs.Objects.{on_shelf}
use Rattle.cov_reports.specs.Reports.{with_paths}
use Rattle.cov_calls.specs.Views.{lists_view}
use Rattle.cov_reports.specs.Views.{findings_view}
use Rattle.cov_reports.proofs.Naming.{paths-so, with_paths-so}
use Rattle.cov_reports.proofs.Opening.{with_paths-open}
use Rattle.cov_calls.proofs.Handing.{hands-on-why}
use Rattle.cov_reports.proofs.reported.with_data.Goals as goal

pub returns-in_err-paths : goal.returns-in_err-paths
returns-in_err-paths g c =
    let s = settings_view c.args.settings in
    let p = lists_view c.args.patterns.now in
    hands-on-why _ (with_paths s p c.args.recorded.now) findings_view
    (on-nobody (on_shelf g.H.Shelf) _ (paths-so c.args.name.now c.args.recorded.now c.deref.ensures.value c.in_err-paths.ensures)) (with_paths-open s p c.args.recorded.now) _ c.from_residual.ensures

pub returns : goal.returns
returns g c =
    goes-on (with_paths (settings_view c.args.settings) (lists_view c.args.patterns.now) c.args.recorded.now)
    (on-nobody (on_shelf g.H.Shelf) _ (paths-so c.args.name.now c.args.recorded.now c.deref.ensures.value c.in_ok-paths.ensures))
    (with_paths-so g.H.Shelf (settings_view c.args.settings) (lists_view c.args.patterns.now) c.args.recorded.now c.deref-2.ensures.value c.with_paths.ensures)
