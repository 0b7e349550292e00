use Rattle.std.proofs.Common.{◌≡◌, ◌++◌, map, drop, string_bytes}
use Rattle.cov_combine.proofs.rule.owned_cut.Given as goal

abbrev pub invariant-loop-part : goal.invariant-loop-part
invariant-loop-part l = map string_bytes l.parts.items ++ map (λ p. p.now) (drop l.part-index l.part-items) ≡ map (λ p. p.now) l.part-items
