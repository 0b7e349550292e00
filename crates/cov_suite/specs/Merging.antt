-- Two lists of lines as one.
--     line_cmp              lines by path, and then by number
--     merged_at, merged     the lines of two lists, of which each rises
use Rattle.std.specs.Prelude.{List, [], ◌∷◌}
use Rattle.std.specs.declared.cmp.Ordering.{Ordering}
use Rattle.std.specs.Ordering.{nat_cmp, ordering_then, match_ordering}
use Rattle.cov_data.specs.DataSet.{text_cmp}
use Rattle.cov_suite.specs.Rows.{Line}

-- by path, and then by number
abbrev pub line_cmp : Line → Line → Ordering
line_cmp a b = ordering_then (text_cmp a.0 b.0) (nat_cmp a.1 b.1)

-- a line and those after it, of which `after` merges the latter, with others
abbrev pub merged_at : Line → List Line → (List Line → List Line) → List Line → List Line
merged_at a xs after [] = a ∷ xs
merged_at a xs after (b ∷ ys) =
    match_ordering (line_cmp a b) (a ∷ after (b ∷ ys)) (a ∷ after ys) (b ∷ merged_at a xs after ys)

-- The lines of two lists: at each step the first of the two that come next, and one for both where
-- they are the same.
abbrev pub merged : List Line → List Line → List Line
merged [] ys = ys
merged (a ∷ xs) ys = merged_at a xs (merged xs) ys
