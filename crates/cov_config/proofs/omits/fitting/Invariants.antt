use Rattle.std.proofs.Common.{◌≡◌, ◌++◌, map, drop}
use Rattle.std.specs.Str.{chars}
use Rattle.cov_config.specs.Omits.{fits}
use Rattle.cov_config.proofs.omits.fitting.Given as goal

abbrev pub invariant-loop-part : goal.invariant-loop-part
invariant-loop-part l = l.tests.items ++ map (λ p. fits (chars l.wanted) (chars p.now)) (drop l.part-index l.parts) ≡ map (λ p. fits (chars l.wanted) (chars p.now)) l.parts
