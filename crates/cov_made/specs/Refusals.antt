-- What `make` may be refused for.
use Rattle.std.specs.Prelude.{ℕ}
use Rattle.cov_why.specs.Answers.{Refusal, pattern_size, write_fault, no_memory}

-- A usual pattern is too large, the line isn't written, or memory is wanting. Nothing of the
-- patterns' texts, of the source or of its run refuses. The first premise is that the maker's count
-- rose, the second that the output's did.
pub data IsMakeRefusal (large unwritten : Type 0) : Refusal → Type 0 where
  too_large : (i : ℕ) → large → IsMakeRefusal large unwritten (pattern_size i)
  unwritable : unwritten → IsMakeRefusal large unwritten write_fault
  starved : IsMakeRefusal large unwritten no_memory
