use Rattle.std.proofs.Common.{◌≡◌, ◌-◌, map, drop, string_bytes}
use Rattle.cov_combine.specs.Aliases.{after_star}
use Rattle.cov_combine.proofs.matching.after_star.Given as goal

abbrev pub invariant-loop-start : goal.invariant-loop-start
invariant-loop-start l = after_star (map string_bytes l.rest) (map (λ p. p.now) l.parts) ≡ after_star (map string_bytes l.rest) (map (λ p. p.now) (drop (l.start - 1) l.parts))
