-- Hashes with more and more numbers in them.
use Rattle.std.proofs.Common.{◌≡◌, ℕ, List, [], ◌∷◌, ◌++◌, refl}
use Rattle.py_text.specs.Hashes.{mixed, mixed_all}

-- some numbers, and others after them
pub mixed-append : (h : ℕ) (xs ys : List ℕ) → mixed_all h (xs ++ ys) ≡ mixed_all (mixed_all h xs) ys
mixed-append h [] ys = refl
mixed-append h (x ∷ xs) ys = mixed-append (mixed h x) xs ys
