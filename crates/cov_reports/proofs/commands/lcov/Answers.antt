use Rattle.std.specs.Prelude.{codes}
use Rattle.std.specs.Option.{option_copied}
use Rattle.std.proofs.Common.{All, List, map, ap, refl, subst, sym}
use Rattle.std.proofs.lemmas.List.Elements.{All-map}
use Rattle.cov_analysis.specs.Analyses.{IsReportable, analysis_view}
use Rattle.cov_analysis.specs.declared.analysis.Analysis.{Analysis}
use Rattle.cov_programs.specs.Objects.{beside}
use Rattle.cov_programs.proofs.Composing.{followed-so, goes-on}
use Rattle.cov_lcov.specs.Lcov.{lcov_bytes}
use Rattle.cov_step.specs.Names.{or_else}
use Rattle.cov_step.specs.Objects.{on_shelf, on_sink}
use Rattle.cov_reports.specs.Reports.{put_lcov, put_text}
use Rattle.cov_calls.specs.Views.{answered_view}
use Rattle.cov_reports.specs.Views.{findings_view}
use Rattle.cov_reports.proofs.Objects.{sources-first, ends-last}
use Rattle.cov_reports.proofs.Judging.{text-of}
use Rattle.cov_reports.proofs.Opening.{put_text-open}
use Rattle.cov_calls.proofs.Handing.{hands-on-why}
use Rattle.cov_reports.proofs.commands.lcov.Goals as goal

pub returns-in_err-findings : goal.returns-in_err-findings
returns-in_err-findings g c =
    hands-on-why _ (put_lcov (option_copied c.args.name) c.args.fail_under) answered_view
    (sources-first g.H.Shelf g.V.Vault g.M.Maker g.O.Sink _ c.in_err-findings.ensures) (λ r. put_text-open (or_else (option_copied c.args.name) (codes "coverage.lcov")) (lcov_bytes r.files r.arcs) c.args.fail_under r) _ c.from_residual.ensures

pub returns : goal.returns
returns g c =
    let f = c.in_ok-findings.findings in
    let r = findings_view f in
    goes-on (put_lcov (option_copied c.args.name) c.args.fail_under)
    (sources-first g.H.Shelf g.V.Vault g.M.Maker g.O.Sink _ c.in_ok-findings.ensures)
    (ends-last g.H.Shelf g.V.Vault g.M.Maker g.O.Sink _ _
    (followed-so (beside (on_shelf g.H.Shelf) (on_sink g.O.Sink))
    (ap (λ name. put_text name (lcov_bytes r.files r.arcs) c.args.fail_under r) c.name_of-name.ensures) refl
    (c.put_text.ensures (lcov_bytes r.files r.arcs)
    (text-of c.lcov_report-text.result (λ (files : List Analysis). lcov_bytes (map analysis_view files) f.arcs) c.deref.ensures.value c.lcov_report-text.ensures))))

pub lcov_report-text-requires : goal.lcov_report-text-requires
lcov_report-text-requires g c =
    let f = c.in_ok-findings.findings in
    subst (λ (files : List Analysis). All IsReportable (map analysis_view files)) (sym c.deref.ensures.value)
    (All-map IsReportable analysis_view f.files.items f.reportable)
