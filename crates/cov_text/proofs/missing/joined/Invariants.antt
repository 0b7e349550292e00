use Rattle.std.proofs.Common.{◌≡◌, ℕ, ℤ, List, map, Bor, String, Global, string_bytes}
use Rattle.cov_text.proofs.missing.joined.Given as goal

abbrev pub invariant-loop-line : goal.invariant-loop-line
invariant-loop-line l = map (λ (t : Bor (List ℕ)). t.now) l.texts.items ≡ map (λ (k : Bor (ℕ × String Global × ℤ)). string_bytes k.now.1) l.yielded
