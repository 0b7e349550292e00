use Rattle.cov_calls.proofs.names.bare.Goals as goal

pub strip_prefix-requires-text-self : goal.strip_prefix-requires-text-self
strip_prefix-requires-text-self c = λ _. c.dots.invariant.1

pub returns-text : goal.returns-text
returns-text c = c.dots.invariant.1
