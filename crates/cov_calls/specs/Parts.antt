-- Parts of what commands share, by which code goes on.
use Rattle.std.specs.Prelude.{ℕ, ◌++◌, List, length}
use Rattle.cov_programs.specs.Programs.{give, ask, ◌>>=◌}
use Rattle.cov_step.specs.Answers.{on, pattern_refusal}
use Rattle.cov_step.specs.Calls.{Patterns, Step, makes}
use Rattle.cov_step.specs.Phases.{always}

-- patterns are made, once there aren't too many and none is too long
abbrev pub making : List (List ℕ) → List (List ℕ) → Step Patterns
making exclude partial = do
  e ← ask (makes exclude) (on (pattern_refusal 0))
  f ← ask (makes (partial ++ always)) (on (pattern_refusal (length exclude)))
  give (record { exclude = exclude; partial = partial ++ always })
