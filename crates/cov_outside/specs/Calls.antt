-- Which calls of an object fail.
use Rattle.std.specs.Prelude.{ℕ, ◌+◌, min, List, Contains}
use Rattle.cov_outside.specs.Counts.{greatest}

-- the numbers of the calls that fail, counted from 0, and how many calls there were
pub record Calls : Type 0 where
  pub failing : List ℕ
  pub count : ℕ

-- the next call is one that fails
abbrev pub FailsNext : Calls → Type 0
FailsNext calls = Contains calls.failing calls.count

-- after one more call
abbrev pub after_call : Calls → Calls
after_call calls = record calls { count = min (calls.count + 1) greatest }
