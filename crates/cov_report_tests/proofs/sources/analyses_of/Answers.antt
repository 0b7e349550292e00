use Rattle.std.proofs.Common.{sym, subst}
use Rattle.std.proofs.lemmas.List.Elements.{All-nil, All-push}
use Rattle.cov_analysis.specs.Analyses.{AreReportable, IsReportable, analysis_view}
use Rattle.cov_report_tests.proofs.sources.analyses_of.Goals as goal

pub loop-file-init : goal.loop-file-init
loop-file-init c = subst AreReportable (sym c.new-analyses.ensures.items) (All-nil (λ file. IsReportable (analysis_view file)))

pub loop-file-preserved : goal.loop-file-preserved
loop-file-preserved c =
    subst AreReportable (sym c.in_ok-push.ensures.items)
    (All-push (λ file. IsReportable (analysis_view file)) c.loop-file.analyses.items c.in_ok-analysis.analysis c.loop-file.invariant c.in_ok-analysis.ensures)
