-- What reading the sources that are made up comes to.
--     IsReadable, MadeAreReadable    their texts, tokens and trees
--     IsRead, MadeAreRead            what reading their bytes comes to
use Rattle.std.specs.Prelude.{◌≡◌, ◌⊎◌, ℕ, ◌+◌, ◌*◌, ◌≤◌, length}
use Rattle.std.specs.Str.{IsUtf8}
use Rattle.cov_make.specs.Source.{source}
use Rattle.py_token.specs.Source.{source_text, line_count, last_line}
use Rattle.py_token.specs.Spelling as text
use Rattle.py_syntax.specs.Spelling as syntax
use Rattle.py_scope.specs.Faults.{IsWellFormed}
use Rattle.cov_run.specs.Loading.{most_bytes}
use Rattle.cov_run.specs.Reading.{Reading, tree, unread, Reads}
use Rattle.cov_make_laws.specs.Trees.{made_tree}
use Rattle.cov_make_laws.specs.Tokens.{source_tokens}

-- The source spells these tokens, and they spell this tree, which is within the limits and well
-- formed. It has four lines for each block at most, and two more.
pub record IsReadable (seed size : ℕ) : Type 0 where
  pub lines : line_count (source seed size) ≤ 4 * size + 2
  pub whole : source_text (source seed size) ≡ source seed size
  pub spells :
      text.Spells (source seed size)
      (source_tokens (last_line (source seed size)) seed size)
  pub spelled :
      syntax.Spells (made_tree seed size)
      (source_tokens (last_line (source seed size)) seed size)
  pub within : syntax.IsWithin (made_tree seed size)
  pub well_formed : IsWellFormed (made_tree seed size)

-- so it is of each seed and each size
abbrev pub MadeAreReadable : Type 0
MadeAreReadable = (seed size : ℕ) → IsReadable seed size

-- The bytes are a text within the limit of a file, and what they come to is the tree, unless memory
-- is wanting: no check refuses them.
pub record IsRead (seed size : ℕ) : Type 0 where
  pub short : length (source seed size) ≤ most_bytes
  pub utf8 : IsUtf8 (source seed size)
  pub comes :
      (r : Reading) → Reads (source seed size) r
      → (r ≡ tree (made_tree seed size)) ⊎ (r ≡ unread)

-- so it is of each seed and each size that the command takes
abbrev pub MadeAreRead : Type 0
MadeAreRead = (seed size : ℕ) → size ≤ 16000 → IsRead seed size
