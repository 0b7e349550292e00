use Rattle.std.proofs.Common.{ap, ◌∙◌}
use Rattle.cov_data.specs.DataSet.{add_counts}
use Rattle.cov_analysis.proofs.Raising.{line_raised}
use Rattle.cov_analysis.proofs.counts.raise.Goals as goal

pub returns : goal.returns
returns c =
    line_raised c.args.counts.now c.insert.new.self c.args.line c.args.count c.saturating_add-sum.result (c.saturating_add-sum.ensures ∙ ap (λ n. add_counts n c.args.count) c.count_of.ensures) c.in_ok-insert.ensures.updates.0
