use Rattle.cov_analysis.specs.Analyses.{analysis_view}
use Rattle.cov_made.proofs.Telling.{joined-so}
use Rattle.cov_made.proofs.lines.line_of.Goals as goal

pub returns : goal.returns
returns c =
    joined-so c.args.seed c.args.size c.args.lines c.args.arcs c.args.steps
    (analysis_view c.args.analysis.now) c.format.result c.in_ok-source.ensures
    c.in_ok-statements.ensures c.in_ok-branches.ensures c.in_ok-run.ensures c.format.ensures.ok

pub branches_text-requires : goal.branches_text-requires
branches_text-requires c = c.requires.numbers
