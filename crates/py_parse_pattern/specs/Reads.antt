-- What the reading of patterns from a place in a list of tokens answers.
use Rattle.std.specs.Prelude.{◌≡◌, ℕ, ◌≤◌, List, length, drop, Result, Ok, Err}
use Rattle.py_syntax.specs.Spelling.{HEIGHT}
use Rattle.py_syntax.specs.Kinds.{Kind}
use Rattle.py_syntax.specs.View.{plain_pattern}
use Rattle.py_parse_pattern.specs.declared.patterns.PatternRead.{PatternRead}
use Rattle.py_grammar.specs.declared.error.ReadError.{ReadError}
use Rattle.py_grammar.specs.declared.error.ReadError.TheVariants as error
use Rattle.py_parse_pattern.specs.Machine.{start, Ending, Unexpected, TooDeep, Reads, within}
use Rattle.py_grammar.specs.Reading.{Parted}
use Rattle.py_parse_pattern.specs.Trees.{IsPattern, IsUnexpected, IsTooDeep}

-- The machine, from a place, ends so at another.
pub record EndsAt (ts : List Kind) (at place : ℕ) (end : List Kind → Ending) : Type 0 where
  pub forward : at ≤ place
  pub inside : place ≤ length ts
  pub ends : within HEIGHT start (drop at ts) ≡ end (drop place ts)

-- the answer is how the machine ends
abbrev pub FollowsMachine : List Kind → ℕ → Result PatternRead ReadError → Type 0
FollowsMachine ts at (Ok r) = EndsAt ts at r.next (Reads (plain_pattern r.pattern))
FollowsMachine ts at (Err (error.Unexpected place)) = EndsAt ts at place Unexpected
FollowsMachine ts at (Err (error.TooDeep place)) = EndsAt ts at place TooDeep
FollowsMachine ts at (Err error.NoMemory) = Unit {0}

-- The pattern whose tokens stand there, up to the first token that goes on with none; or why there
-- is none.
abbrev pub IsRead : List Kind → ℕ → Result PatternRead ReadError → Type 0
IsRead ts at (Ok r) = Parted ts at r.next (IsPattern HEIGHT (plain_pattern r.pattern))
IsRead ts at (Err (error.Unexpected place)) = Parted ts at place (IsUnexpected HEIGHT)
IsRead ts at (Err (error.TooDeep place)) = Parted ts at place (IsTooDeep HEIGHT)
IsRead ts at (Err error.NoMemory) = Unit {0}
