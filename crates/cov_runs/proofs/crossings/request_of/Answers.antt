use Rattle.std.proofs.Common.{false, refl, ◌∙◌}
use Rattle.cov_runs.proofs.WordsAsked.{asked-so, number-or, program-words}
use Rattle.cov_runs.proofs.crossings.request_of.Goals as goal

pub returns : goal.returns
returns c = asked-so false refl c.new.ensures.bytes (program-words c.args.script c.args.args.items) (c.unwrap_or.ensures ∙ number-or c.args.budget _)
