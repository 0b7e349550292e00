-- Flags that say of each line whether it is matched.
use Rattle.std.specs.Prelude.{ℕ, ◌+◌, Bool, ◌||◌, List, [], ◌∷◌, ◌++◌, map}
use Rattle.std.specs.List.{zip}
use Rattle.cov_exclude.specs.Texts.{is_matched_by}
use Rattle.cov_exclude.specs.Touched.{mark_if}

-- the flags of lines, once those are set too whose line the pattern of a text matches
abbrev pub flagged_by : List ℕ → List Bool → List (List ℕ) → List Bool
flagged_by text flags lines = map (λ p. p.0 || is_matched_by text p.1) (zip flags lines)

-- the numbers of the flags that are set, counted from n
abbrev pub flagged_from : ℕ → List Bool → List ℕ
flagged_from n [] = []
flagged_from n (flag ∷ flags) = mark_if flag n ++ flagged_from (n + 1) flags
