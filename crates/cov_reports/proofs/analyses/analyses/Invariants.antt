use Rattle.std.proofs.Common.{◌≡◌, map, take}
use Rattle.cov_analysis.specs.Analyses.{AreReportable, analysis_view}
use Rattle.cov_step.specs.Phases.{analysed}
use Rattle.cov_calls.specs.Views.{lists_view}
use Rattle.cov_reports.specs.Views.{source_view}
use Rattle.cov_reports.proofs.analyses.analyses.Given as goal

abbrev pub invariant-loop-source : goal.invariant-loop-source
invariant-loop-source l = record {
  analyses : map analysis_view l.files.items ≡ map (analysed (lists_view l.patterns) l.recorded) (map source_view (take l.source-index l.sources));
  reportable : AreReportable l.files.items;
}
