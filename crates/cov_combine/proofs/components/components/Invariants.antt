use Rattle.std.proofs.Common.{◌≡◌, ◌++◌, map, drop}
use Rattle.cov_combine.proofs.Parts.{cut_twice}
use Rattle.cov_combine.proofs.components.components.Given as goal

abbrev pub invariant-loop-piece : goal.invariant-loop-piece
invariant-loop-piece l = map (λ p. p.now) l.parts.items ++ cut_twice (map (λ p. p.now) (drop l.piece-index l.piece-items)) ≡ cut_twice (map (λ p. p.now) l.piece-items)
