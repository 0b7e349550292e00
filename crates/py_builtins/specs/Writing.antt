-- What a walk over a value writes, from left to right.
use Rattle.std.specs.Prelude.{ℕ, List, ◌++◌, Result, Err}
use Rattle.py_value.specs.declared.cause.Cause.{Cause}
use Rattle.py_value.specs.declared.cause.Cause.TheVariants.{TooDeep}
use Rattle.py_value.specs.Answers.{◌>>=◌}
use Rattle.py_value.specs.Sequences.{within_limit}

-- the whole text, or what stands before a value that is too deep
pub data Writing : Type 0 where
  whole : List ℕ → Writing
  broken : List ℕ → Writing

infixr 60 ◌▸◌
-- one piece and then the next
abbrev pub ◌▸◌ : Writing → Writing → Writing
(whole s) ▸ (whole t) = whole (s ++ t)
(whole s) ▸ (broken t) = broken (s ++ t)
(broken s) ▸ w = broken s

-- the text, or the first that the walk meets: a character too many, or a value that is too deep
abbrev pub answer_of : Writing → Result (List ℕ) Cause
answer_of (whole s) = within_limit s
answer_of (broken s) = within_limit s >>= λ t. Err TooDeep
