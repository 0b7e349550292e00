-- Lists that are made one by one.
use Rattle.std.proofs.Common.{◌≡◌, ℕ, ◌≤◌, List, [], ◌∷◌, ◌++◌, map, drop, length, refl, ap, sym, ◌∙◌}
use Rattle.std.proofs.lemmas.List.{append-nil}
use Rattle.std.proofs.Math.ListN.{drop_of_length-le}

module _ {A C : Type 0} (f : A → C) where
  pub one-end : (xs : List A) (i : ℕ) (made all : List C) → length xs ≤ i → made ++ map f (drop i xs) ≡ all → made ≡ all
  one-end xs i made all h e = sym (append-nil made) ∙ ap (λ ys. made ++ map f ys) (sym (drop_of_length-le xs h)) ∙ e

pub map-twice : {A B C : Type 0} (f : A → B) (g : B → C) (xs : List A) → map g (map f xs) ≡ map (λ x. g (f x)) xs
map-twice f g [] = refl
map-twice f g (x ∷ xs) = ap (λ rest. g (f x) ∷ rest) (map-twice f g xs)
