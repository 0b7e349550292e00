use Rattle.std.proofs.Common.{List, map, string_bytes, All, sym, subst}
use Rattle.cov_analysis.specs.Lines.{IsOfText}
use Rattle.cov_step.specs.Calls.{PlainSource}
use Rattle.cov_reports.specs.declared.sources.ReportedSource.{ReportedSource}
use Rattle.cov_config.specs.Plain.{settings_view}
use Rattle.cov_programs.specs.Programs.{give}
use Rattle.cov_programs.proofs.Composing.{goes-on, on-nobody}
use Rattle.cov_step.specs.Objects.{on_shelf}
use Rattle.cov_reports.specs.Reports.{report_of}
use Rattle.cov_calls.specs.Views.{lists_view}
use Rattle.cov_reports.specs.Views.{source_view}
use Rattle.cov_reports.specs.Views.{findings_view}
use Rattle.cov_reports.proofs.Lists.{unmapped}
use Rattle.cov_reports.proofs.Naming.{report_of-so}
use Rattle.cov_calls.proofs.Handing.{hands-on-why}
use Rattle.cov_reports.proofs.Texts.{sources-of_text}
use Rattle.cov_reports.proofs.reported.with_paths.Goals as goal

pub returns-in_err-sources : goal.returns-in_err-sources
returns-in_err-sources g c =
    hands-on-why _ (λ sources. give (report_of (settings_view c.args.settings) (lists_view c.args.patterns.now) c.args.recorded.now sources)) findings_view
    c.in_err-sources.ensures (λ sources. tt) _ c.from_residual.ensures

pub returns : goal.returns
returns g c =
    goes-on (λ sources. give (report_of (settings_view c.args.settings) (lists_view c.args.patterns.now) c.args.recorded.now sources))
    c.in_ok-sources.ensures (on-nobody (on_shelf g.H.Shelf) _ (report_of-so (settings_view c.args.settings) (lists_view c.args.patterns.now) c.args.recorded.now c.deref.ensures.value c.report_of.ensures))

pub report_of-requires : goal.report_of-requires
report_of-requires g c =
    subst (λ (sources : List ReportedSource). All (λ (s : ReportedSource). IsOfText (source_view s).body) sources) (sym c.deref.ensures.value)
    (unmapped (λ (s : PlainSource). IsOfText s.body) source_view c.in_ok-sources.sources.items
    (sources-of_text g.H.Shelf (map string_bytes c.args.paths.now) _ _ (map source_view c.in_ok-sources.sources.items) c.in_ok-sources.ensures))
