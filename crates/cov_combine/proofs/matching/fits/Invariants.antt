use Rattle.std.proofs.Common.{◌≡◌, map, drop, string_bytes}
use Rattle.cov_combine.specs.Aliases.{fits}
use Rattle.cov_combine.proofs.matching.fits.Given as goal

abbrev pub invariant-loop-i : goal.invariant-loop-i
invariant-loop-i l = fits (map string_bytes l.pattern) (map (λ p. p.now) l.parts) ≡ fits (map string_bytes (drop l.i l.pattern)) (map (λ p. p.now) (drop l.i l.parts))
