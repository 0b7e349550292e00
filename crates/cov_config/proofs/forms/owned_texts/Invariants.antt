use Rattle.std.proofs.Common.{◌≡◌, ◌++◌, map, drop, string_bytes}
use Rattle.cov_config.proofs.forms.owned_texts.Given as goal

abbrev pub invariant-loop-text : goal.invariant-loop-text
invariant-loop-text l = map string_bytes l.owned.items ++ map (λ t. t.now) (drop l.text-index l.texts) ≡ map (λ t. t.now) l.texts
