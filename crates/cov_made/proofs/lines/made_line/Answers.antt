use Rattle.std.proofs.Common.{ap, length, ◌∙◌}
use Rattle.std.specs.Str.{chars}
use Rattle.py_token.specs.Source.{line_count}
use Rattle.cov_analysis.specs.Analyses.{analysis_view}
use Rattle.cov_made.proofs.Telling.{line-so}
use Rattle.cov_made.proofs.lines.made_line.Goals as goal

pub returns : goal.returns
returns c =
    line-so c.line_of.result c.args.seed c.args.size c.count_lines-lines.result _ _
    (analysis_view c.in_ok-analysis.analysis)
    (c.count_lines-lines.ensures ∙ ap (λ t. line_count (chars t)) c.as_str.ensures.value)
    c.in_ok-analysis.ensures.analysis
    (c.len.ensures ∙ c.in_ok-arcs.arcs.ok.0 ∙ ap length c.in_ok-arcs.ensures) c.line_of.ensures
