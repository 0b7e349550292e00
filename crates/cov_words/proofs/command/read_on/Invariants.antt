use Rattle.std.proofs.Common.{◌≡◌, ◌+◌, map, drop, string_bytes}
use Rattle.cov_words.specs.Reading.{run, passed}
use Rattle.cov_words.specs.Plain.{reading_view}
use Rattle.cov_words.proofs.command.read_on.Given as goal

abbrev pub invariant-loop-word : goal.invariant-loop-word
invariant-loop-word l =
    (l.passed ≡ l.word-index)
    × (passed (map string_bytes l.words) (reading_view l.initial.reading) ≡ l.passed + passed (map string_bytes (drop l.word-index l.words)) (reading_view l.reading))
    × (run (map string_bytes l.words) (reading_view l.initial.reading) ≡ run (map string_bytes (drop l.word-index l.words)) (reading_view l.reading))
