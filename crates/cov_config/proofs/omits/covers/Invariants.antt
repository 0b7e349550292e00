use Rattle.std.proofs.Common.{◌≡◌, ◌+◌, length, map, drop}
use Rattle.cov_config.specs.Rows.{any_at}
use Rattle.cov_config.specs.Omits.{covers}
use Rattle.cov_config.proofs.omits.covers.Given as goal

-- what is left of the pattern matches from a place that is reached
abbrev pub invariant-loop-wanted : goal.invariant-loop-wanted
invariant-loop-wanted l =
    (any_at l.row (covers (map (λ p. p.now) (drop l.wanted-index l.pattern))) (map (λ p. p.now) l.parts) ≡ covers (map (λ p. p.now) l.pattern) (map (λ p. p.now) l.parts))
    × (length l.row ≡ length l.parts + 1)
