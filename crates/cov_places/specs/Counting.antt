-- How many mutants there are, as far as 64 bits count.
--     most, one_more           the greatest count, and one more below it
--     counted                  the count after some mutants
--     Counts                   the count after those of an item in front of a row
use Rattle.std.specs.Prelude.{◌≡◌, ℕ, ◌+◌, min, List, [], ◌∷◌}

-- the greatest count that is told
abbrev pub most : ℕ
most = 18446744073709551615

-- one more, or the greatest count
abbrev pub one_more : ℕ → ℕ → ℕ
one_more limit n = min (n + 1) limit

-- a count up to a limit, after some more
abbrev pub counted_to : {A : Type 0} → ℕ → ℕ → List A → ℕ
counted_to limit n [] = n
counted_to limit n (x ∷ xs) = counted_to limit (one_more limit n) xs

-- a count after some more mutants
abbrev pub counted : {A : Type 0} → ℕ → List A → ℕ
counted n xs = counted_to most n xs

-- a count after the mutants of an item in front of a row, whatever the row is
abbrev pub Counts : {A R : Type 0} → (R → List A) → (R → R) → ℕ → ℕ → Type 0
Counts {R = R} mutants item n m = (r : R) → counted n (mutants (item r)) ≡ counted m (mutants r)
