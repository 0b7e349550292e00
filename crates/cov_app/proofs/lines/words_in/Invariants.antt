use Rattle.std.proofs.Common.{◌≡◌, ◌++◌, map, drop, string_bytes}
use Rattle.cov_app.proofs.LineWords.{words_of}
use Rattle.cov_app.proofs.lines.words_in.Given as goal

abbrev pub invariant-loop-part : goal.invariant-loop-part
invariant-loop-part l = map string_bytes l.words.items ++ words_of (map (λ p. p.now) (drop l.part-index l.part-items)) ≡ words_of (map (λ p. p.now) l.part-items)
