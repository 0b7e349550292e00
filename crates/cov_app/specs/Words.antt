-- The words of a line, part by part.
use Rattle.std.specs.Prelude.{List, filter, not}
use Rattle.cov_step.specs.Scripts.{is_nothing}
use Rattle.cov_words.specs.Values.{Word}

-- the words that aren't empty
abbrev pub filled : List Word → List Word
filled words = filter (λ w. not (is_nothing w)) words
