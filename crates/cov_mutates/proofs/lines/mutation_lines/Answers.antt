use Rattle.std.proofs.Common.{◌∙◌}
use Rattle.cov_step.specs.Mutating.{is_killed, is_survivor, is_unreached}
use Rattle.cov_mutates.proofs.Writing.{counted, same-counts, same-lines}
use Rattle.cov_mutates.proofs.lines.mutation_lines.Goals as goal

pub returns : goal.returns
returns c =
    let ps = c.args.programs.now in
    let js = c.args.judged.now in
    let counts = c.counts_of-counts.ensures in
    c.in_ok-push_str.ensures.bytes
    ∙ same-lines c.in_ok-text.ensures (c.as_str.ensures.value ∙ c.in_ok-last.ensures
    ∙ same-counts (counts.killed ∙ counted is_killed ps js) (counts.survived ∙ counted is_survivor ps js) (counts.unreached ∙ counted is_unreached ps js))
