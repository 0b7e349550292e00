use Rattle.std.proofs.Common.{◌≡◌, ◌++◌, map, drop, string_bytes}
use Rattle.cov_combine.specs.Aliases.{after}
use Rattle.cov_combine.proofs.components.push_after.Given as goal

abbrev pub invariant-loop-part : goal.invariant-loop-part
invariant-loop-part l = string_bytes l.text ++ after (map (λ p. p.now) (drop l.part-index l.parts)) ≡ string_bytes l.initial.text ++ after (map (λ p. p.now) l.parts)
