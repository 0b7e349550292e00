use Rattle.std.proofs.Common.{◌≡◌, ◌++◌, map, drop, string_bytes}
use Rattle.cov_combine.specs.Aliases.{cut}
use Rattle.cov_combine.proofs.rule.PathRule.read.Given as goal

abbrev pub invariant-loop-pattern : goal.invariant-loop-pattern
invariant-loop-pattern l = map (λ p. map string_bytes p.items) l.patterns.items ++ map cut (map string_bytes (drop l.pattern-index l.equivalents)) ≡ map cut (map string_bytes l.equivalents)
