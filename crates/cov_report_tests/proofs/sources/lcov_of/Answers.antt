use Rattle.std.proofs.Common.{List, All, map, sym, subst}
use Rattle.cov_analysis.specs.Analyses.{IsReportable, analysis_view}
use Rattle.cov_analysis.specs.declared.analysis.Analysis.{Analysis}
use Rattle.cov_analysis.proofs.Reporting.{reports_law}
use Rattle.cov_report_tests.proofs.sources.lcov_of.Goals as goal

pub lcov_report-requires : goal.lcov_report-requires
lcov_report-requires c =
    subst (λ (files : List Analysis). All IsReportable (map analysis_view files)) (sym c.deref.ensures.value)
    (reports_law c.in_ok-analyses.analyses.items c.in_ok-analyses.ensures).1
