use Rattle.std.proofs.Common.{None, lit<, ◌∙◌}
use Rattle.std.proofs.lemmas.Str.Pattern.{strip_prefix_char}
use Rattle.cov_calls.proofs.Slashes.{once_last}
use Rattle.cov_calls.proofs.names.after_slashes.Goals as goal

pub strip_prefix-requires-text-self : goal.strip_prefix-requires-text-self
strip_prefix-requires-text-self c = λ _. c.slashes.invariant.2

pub returns-text : goal.returns-text
returns-text c = c.slashes.invariant.2

pub returns-clause-once : goal.returns-clause-once
returns-clause-once c = once_last c.slashes.rest.now (strip_prefix_char 47 c.slashes.rest.now None c.in_default.ensures.cases (lit< tt)) ∙ c.slashes.invariant.0
