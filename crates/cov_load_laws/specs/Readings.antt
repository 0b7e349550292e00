-- Reading the bytes of a source comes to one thing, want of memory apart.
--     OneReading      the reading is determined
--     HasOneTree      so is the tree, with or without faults of scope
--     ReadsTree       which sources have a tree
use Rattle.std.specs.Prelude.{◌≡◌, ◌≢◌, ◌≤◌, ℕ, List}
use Rattle.std.specs.Str.{IsUtf8, chars}
use Rattle.py_token.specs.Plain.{PToken}
use Rattle.py_token.specs.Source.{line_count, most_lines}
use Rattle.py_token.specs.Spelling as text
use Rattle.py_syntax.specs.Tree.{Stmts}
use Rattle.py_syntax.specs.Spelling.{Spells, IsWithin}
use Rattle.py_scope.specs.Faults.{IsWellFormed}
use Rattle.cov_run.specs.Reading.{Reading, tree, unread, Reads, HasTree}

-- two readings of the same bytes are the same
abbrev pub OneReading : Type 0
OneReading =
    (bytes : List ℕ) (r s : Reading) → r ≢ unread → s ≢ unread → Reads bytes r
    → Reads bytes s → r ≡ s

-- the same bytes have one tree
abbrev pub HasOneTree : Type 0
HasOneTree = (bytes : List ℕ) (m n : Stmts) → HasTree bytes m → HasTree bytes n → m ≡ n

-- UTF-8 text of few enough lines, whose tokens are those of a well-formed module within both
-- limits, is read as that module
abbrev pub ReadsTree : Type 0
ReadsTree =
    (bytes : List ℕ) (tokens : List PToken) (m : Stmts) → IsUtf8 bytes
    → line_count (chars bytes) ≤ most_lines → text.Spells (chars bytes) tokens
    → Spells m tokens → IsWithin m → IsWellFormed m → Reads bytes (tree m)
