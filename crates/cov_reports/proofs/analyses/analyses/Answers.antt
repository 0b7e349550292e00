use Rattle.std.proofs.Common.{sym, subst}
use Rattle.cov_analysis.specs.Lines.{IsOfText}
use Rattle.cov_calls.specs.Views.{lists_view}
use Rattle.cov_reports.specs.Views.{source_view}
use Rattle.cov_reports.specs.declared.sources.ReportedSource.{ReportedSource}
use Rattle.cov_reports.proofs.Files.{one-more, reportable-more}
use Rattle.cov_reports.proofs.analyses.analyses.Goals as goal

pub analysis-requires : goal.analysis-requires
analysis-requires c = subst (λ (s : ReportedSource). IsOfText (source_view s).body) (sym c.source-item.is) (c.requires c.loop-source.source-index c.source-item.result c.loop-source-test.true)

pub loop-source-preserved : goal.loop-source-preserved
loop-source-preserved c =
    record {
      analyses = one-more (lists_view c.args.patterns.now) c.args.recorded.now c.loop-source.files.items c.push.new.files.items c.in_ok-file.file c.args.sources.now c.loop-source.source-index c.source-item.result
          c.loop-source-test.true c.source-item.is c.in_ok-push.ensures c.loop-source.invariant.analyses c.in_ok-file.ensures.analysis;
      reportable = reportable-more c.loop-source.files.items c.push.new.files.items c.in_ok-file.file c.in_ok-push.ensures c.loop-source.invariant.reportable c.in_ok-file.ensures.reportable;
    }
