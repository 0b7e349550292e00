-- Lines that are matched, and whether a statement or a header has one.
use Rattle.std.specs.Prelude.{ℕ, ◌+◌, nat_le, ◌&&◌, Bool, if◌then◌else◌, List, [], ◌∷◌, ◌++◌}
use Rattle.std.specs.List.{list_any}
use Rattle.std.specs.List.Sorted.{IsStrictlySortedBy}
use Rattle.std.specs.Ordering.{nat_cmp}

-- whether a line lies between two lines
abbrev pub is_within : ℕ → ℕ → ℕ → Bool
is_within first last l = nat_le first l && nat_le l last

-- whether one of these lines lies between two lines
abbrev pub touches : List ℕ → ℕ → ℕ → Bool
touches lines first last = list_any (is_within first last) lines

-- a line, where a test passes
abbrev pub mark_if : Bool → ℕ → List ℕ
mark_if passes l = if passes then l ∷ [] else []

-- numbers that rise
pub record IsRising (lines : List ℕ) : Type 0 where
  pub rises : IsStrictlySortedBy nat_cmp lines

-- the numbers of the texts that pass, counted from n
abbrev pub numbers_from : (List ℕ → Bool) → ℕ → List (List ℕ) → List ℕ
numbers_from passes n [] = []
numbers_from passes n (text ∷ texts) = mark_if (passes text) n ++ numbers_from passes (n + 1) texts
