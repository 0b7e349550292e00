use Rattle.std.proofs.Common.{◌≡◌, ◌++◌, map, drop, string_bytes}
use Rattle.cov_app.specs.Words.{filled}
use Rattle.cov_app.proofs.lines.push_words.Given as goal

abbrev pub invariant-loop-word : goal.invariant-loop-word
invariant-loop-word l = map string_bytes l.words.items ++ filled (map (λ w. w.now) (drop l.word-index l.word-items)) ≡ map string_bytes l.initial.words.items ++ filled (map (λ w. w.now) l.word-items)
