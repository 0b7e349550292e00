use Rattle.std.proofs.Common.{◌≡◌, ◌∙◌}
use Rattle.py_syntax.specs.View.{plain_module}
use Rattle.cov_analysis.specs.Analyses.{analysis_of, analysis_view, source_of, taken_of}
use Rattle.cov_analysis.specs.declared.analysis.Analysis.{Analysis}
use Rattle.cov_step.specs.Phases.{analysed}
use Rattle.cov_calls.specs.Views.{lists_view}
use Rattle.cov_reports.specs.Views.{source_view}
use Rattle.cov_reports.proofs.Files.{analysed-so, weaker}
use Rattle.cov_reports.proofs.analyses.analysis.Goals as goal

pub returns-clause-analysis : goal.returns-clause-analysis
returns-clause-analysis c =
    let p = lists_view c.args.patterns.now in
    weaker c.analyse.result
    (λ (file : Analysis). analysis_view file ≡ analysis_of c.as_str-2.result.now (source_of p.exclude p.partial (plain_module c.args.source.now.«module») c.as_str.result.now) (taken_of c.args.recorded.now c.as_str-2.result.now))
    (λ (file : Analysis). analysis_view file ≡ analysed p c.args.recorded.now (source_view c.args.source.now))
    (λ file is. is ∙ analysed-so p c.args.recorded.now (plain_module c.args.source.now.«module») c.as_str-2.ensures.value c.as_str.ensures.value) c.analyse.ensures.analysis
