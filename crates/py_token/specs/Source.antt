-- The characters that are cut, and the lines that they stand on.
use Rattle.std.specs.Prelude.{ℕ, suc, Bool, false, ◌&&◌, ◌==◌, List, [], ◌∷◌, max, if◌then◌else◌}

-- whether a character stands in front
abbrev pub begins : ℕ → List ℕ → Bool
begins c [] = false
begins c (d ∷ ds) = d == c

-- one byte order mark at the start is skipped
abbrev pub without_mark : List ℕ → List ℕ
without_mark [] = []
without_mark (c ∷ cs) = if c == 0xFEFF then cs else c ∷ cs

-- a carriage return and a line feed are one line end
unfoldable pub joined_ends : List ℕ → List ℕ
joined_ends [] = []
joined_ends (c ∷ cs) = if (c == 13) && begins 10 cs then joined_ends cs else c ∷ joined_ends cs

-- the characters that are cut
abbrev pub source_text : List ℕ → List ℕ
source_text cs = joined_ends (without_mark cs)

-- how many lines characters stand on; a last line without a line end counts
unfoldable pub line_count : List ℕ → ℕ
line_count [] = 0
line_count (c ∷ cs) = if c == 10 then suc (line_count cs) else max 1 (line_count cs)

-- the most lines of a source
abbrev pub most_lines : ℕ
most_lines = 65535

-- the last line of a text, or 1 where it has none
abbrev pub last_line : List ℕ → ℕ
last_line cs = max 1 (line_count cs)
