use Rattle.cov_analysis.specs.Analyses.{AreReportable}
use Rattle.cov_report_tests.proofs.sources.analyses_of.Given as goal

abbrev pub invariant-loop-file : goal.invariant-loop-file
invariant-loop-file l = AreReportable l.analyses.items
