use Rattle.std.proofs.Common.{List, All, sym, subst}
use Rattle.cov_analysis.specs.Counts.{IsCounted, numbers_of}
use Rattle.cov_analysis.specs.declared.analysis.Analysis.{Analysis}
use Rattle.cov_analysis.proofs.Reporting.{reports_law}
use Rattle.cov_report_tests.proofs.sources.text_of.Goals as goal

pub text_report-requires : goal.text_report-requires
text_report-requires c =
    subst (λ (files : List Analysis). All (λ file. IsCounted (numbers_of file)) files) (sym c.deref.ensures.value)
    (reports_law c.in_ok-analyses.analyses.items c.in_ok-analyses.ensures).0
