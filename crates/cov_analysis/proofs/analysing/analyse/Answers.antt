use Rattle.std.proofs.Common.{sym, ap, ap₂, subst, ◌∙◌}
use Rattle.py_syntax.specs.View.{plain_module}
use Rattle.cov_exclude.specs.Touched.{IsRising}
use Rattle.cov_analysis.specs.Analyses.{Source, analysis_of, IsInOrder, IsReportable}
use Rattle.cov_analysis.proofs.Ordered.{rises_of}
use Rattle.cov_analysis.proofs.Reporting.{reportable_of, lines_of_text}
use Rattle.cov_analysis.proofs.Rising.{excluded_in-rises, no_branch_in-rises}
use Rattle.cov_analysis.proofs.analysing.analyse.Goals as goal

pub analysis-requires-clause-excluded : goal.analysis-requires-clause-excluded
analysis-requires-clause-excluded c = subst IsRising (sym (ap (λ (s : Source). s.excluded) c.in_ok-text.ensures)) (excluded_in-rises c.args.exclude.now (plain_module c.args.module.now) c.args.source.now)

pub analysis-requires-clause-no_branch : goal.analysis-requires-clause-no_branch
analysis-requires-clause-no_branch c = subst IsRising (sym (ap (λ (s : Source). s.no_branch) c.in_ok-text.ensures)) (no_branch_in-rises c.args.partial.now (plain_module c.args.module.now) c.args.source.now)

pub returns-clause-analysis : goal.returns-clause-analysis
returns-clause-analysis c = c.in_ok-analysis.ensures ∙ ap₂ (analysis_of c.args.path.now) c.in_ok-text.ensures c.in_ok-recorded.ensures.taken

pub returns-clause-in_order : goal.returns-clause-in_order
returns-clause-in_order c =
    subst IsInOrder (sym (c.in_ok-analysis.ensures ∙ ap₂ (analysis_of c.args.path.now) c.in_ok-text.ensures c.in_ok-recorded.ensures.taken))
    (rises_of c.args.path.now c.args.exclude.now c.args.partial.now (plain_module c.args.module.now) c.args.source.now _)

pub returns-clause-reportable : goal.returns-clause-reportable
returns-clause-reportable c = λ lines.
    subst IsReportable (sym (c.in_ok-analysis.ensures ∙ ap₂ (analysis_of c.args.path.now) c.in_ok-text.ensures c.in_ok-recorded.ensures.taken))
    (reportable_of c.args.path.now c.args.exclude.now c.args.partial.now (plain_module c.args.module.now) c.args.source.now _ lines)

pub returns-clause-of_text : goal.returns-clause-of_text
returns-clause-of_text c = λ text.
    subst IsReportable (sym (c.in_ok-analysis.ensures ∙ ap₂ (analysis_of c.args.path.now) c.in_ok-text.ensures c.in_ok-recorded.ensures.taken))
    (reportable_of c.args.path.now c.args.exclude.now c.args.partial.now (plain_module c.args.module.now) c.args.source.now _ (lines_of_text (plain_module c.args.module.now) text))
