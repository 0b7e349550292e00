use Rattle.std.proofs.Common.{string_bytes, ◌∙◌}
use Rattle.cov_suites.proofs.Asked.{asked-so, number-or}
use Rattle.cov_suites.proofs.requests.request_of.Goals as goal

pub returns : goal.returns
returns c = asked-so (string_bytes c.args.settings.context) c.either.ensures (c.unwrap_or.ensures ∙ number-or c.args.budget c.args.settings.budget)
