use Rattle.std.proofs.Common.{◌≡◌, drop, string_bytes}
use Rattle.std.specs.List.{list_any}
use Rattle.cov_config.specs.Omits.{omits}
use Rattle.cov_config.proofs.omits.is_omitted.Given as goal

abbrev pub invariant-loop-pattern : goal.invariant-loop-pattern
invariant-loop-pattern l = list_any (λ p. omits (string_bytes p) l.path) (drop l.pattern-index l.patterns) ≡ list_any (λ p. omits (string_bytes p) l.path) l.patterns
