-- Loops over lists.
use Rattle.std.proofs.Common.{◌≡◌, ℕ, suc, ◌+◌, ◌-◌, ◌<◌, arith, ◌≤◌, List, [], ◌∷◌, ◌++◌, map, refl, ap, sym}
use Rattle.py_text.specs.Parts.{repeat}

-- a list of what a walk yielded as it is
pub map_same : {X : Type 0} (xs : List X) → map (λ x. x) xs ≡ xs
map_same [] = refl
map_same (x ∷ xs) = ap (λ ys. x ∷ ys) (map_same xs)

-- one more repetition of those that are left
pub repeat_more : {A : Type 0} (n i : ℕ) (xs : List A) → i < n → xs ++ repeat (n - (i + 1)) xs ≡ repeat (n - i) xs
repeat_more n i xs l = let e : n - i ≡ suc (n - (i + 1)) = omega arith in ap (λ k. repeat k xs) (sym e)

pub repeat_none : {A : Type 0} (n i : ℕ) (xs : List A) → n ≤ i → repeat (n - i) xs ≡ []
repeat_none n i xs l = let e : n - i ≡ 0 = omega arith in ap (λ k. repeat k xs) e
