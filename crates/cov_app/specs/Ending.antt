-- How a command ends that isn't refused for a cause.
use Rattle.std.specs.Prelude.{◌≡◌, Ok, Err}
use Rattle.cov_why.specs.Answers.{PlainWhy, no_memory}

-- it isn't refused, unless memory was wanting
abbrev pub IsDone : PlainWhy → Type 0
IsDone (Ok ended) = Unit {0}
IsDone (Err refusal) = refusal ≡ no_memory
