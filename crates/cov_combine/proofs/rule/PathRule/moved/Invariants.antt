use Rattle.std.proofs.Common.{◌≡◌, map, drop, string_bytes}
use Rattle.cov_combine.specs.Aliases.{first_left}
use Rattle.cov_combine.proofs.rule.PathRule.moved.Given as goal

abbrev pub invariant-loop-pattern : goal.invariant-loop-pattern
invariant-loop-pattern l = first_left l.self.1 (map (λ p. p.now) l.parts) ≡ first_left (map (λ p. map string_bytes p.items) (drop l.pattern-index l.pattern-items)) (map (λ p. p.now) l.parts)
