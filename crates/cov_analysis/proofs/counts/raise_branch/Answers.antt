use Rattle.std.proofs.Common.{ap, ◌∙◌}
use Rattle.cov_data.specs.DataSet.{add_counts}
use Rattle.cov_analysis.proofs.Raising.{branch_raised, branch_added}
use Rattle.cov_analysis.proofs.counts.raise_branch.Goals as goal

pub returns : goal.returns
returns c = record {
  taken = branch_added c.args.counts.now c.insert.new.self c.args.branch c.saturating_add-sum.result c.in_ok-insert.ensures.updates.0;
  count = branch_raised c.args.counts.now c.insert.new.self c.args.branch c.args.count c.saturating_add-sum.result (c.saturating_add-sum.ensures ∙ ap (λ n. add_counts n c.args.count) c.branch_count_of.ensures) c.in_ok-insert.ensures.updates.0;
}
