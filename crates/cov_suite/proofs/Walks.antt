-- Lists that are gone through from the front.
use Rattle.std.proofs.Common.{◌≡◌, ℕ, ◌+◌, ◌<◌, ◌≤◌, List, [], ◌∷◌, ◌++◌, length, drop, take, get_or, append_assoc, sym, ap, ◌∙◌}
use Rattle.std.proofs.lemmas.List.{append-nil, drop_more, drop_all, take_more}

pub drop_here : {A : Type 0} (xs : List A) (i : ℕ) (x : A) → i < length xs → x ≡ get_or xs i x → drop i xs ≡ x ∷ drop (i + 1) xs
drop_here xs i x lt e = drop_more xs i x lt ∙ ap (λ y. y ∷ drop (i + 1) xs) (sym e)

pub take_here : {A : Type 0} (xs : List A) (i : ℕ) (x : A) → i < length xs → x ≡ get_or xs i x → take (i + 1) xs ≡ take i xs ++ x ∷ []
take_here xs i x lt e = take_more xs i x lt ∙ ap (λ y. take i xs ++ y ∷ []) (sym e)

module _ {B C : Type 0} (g : B → List C) (rest : List B → List C) where
  -- what one more element adds
  pub added_more : ((y : B) (ys : List B) → rest (y ∷ ys) ≡ g y ++ rest ys) → (xs : List B) (i : ℕ) (y : B) (old new all : List C) → i < length xs → y ≡ get_or xs i y → new ≡ old ++ g y
      → old ++ rest (drop i xs) ≡ all → new ++ rest (drop (i + 1) xs) ≡ all
  added_more opens xs i y old new all lt at is h =
      ap (λ zs. zs ++ rest (drop (i + 1) xs)) is
      ∙ append_assoc old (g y) (rest (drop (i + 1) xs))
      ∙ ap (λ ys. old ++ ys) (sym (opens y (drop (i + 1) xs)))
      ∙ ap (λ ys. old ++ rest ys) (sym (drop_here xs i y lt at))
      ∙ h

  -- nothing is left
  pub added_all : rest [] ≡ [] → (xs : List B) (i : ℕ) (made all : List C) → length xs ≤ i → made ++ rest (drop i xs) ≡ all → made ≡ all
  added_all none xs i made all le h =
      sym (append-nil made) ∙ ap (λ ys. made ++ ys) (sym none) ∙ ap (λ ys. made ++ rest ys) (sym (drop_all i xs le)) ∙ h

module _ {B D : Type 0} (step : D → B → D) (rest : D → List B → D) where
  -- a fold, one step on
  pub folded_more : ((d : D) (y : B) (ys : List B) → rest d (y ∷ ys) ≡ rest (step d y) ys) → (xs : List B) (i : ℕ) (y : B) (old new all : D) → i < length xs → y ≡ get_or xs i y → new ≡ step old y
      → rest old (drop i xs) ≡ all → rest new (drop (i + 1) xs) ≡ all
  folded_more opens xs i y old new all lt at is h =
      ap (λ d. rest d (drop (i + 1) xs)) is ∙ sym (opens old y (drop (i + 1) xs)) ∙ ap (rest old) (sym (drop_here xs i y lt at)) ∙ h

  pub folded_all : ((d : D) → rest d [] ≡ d) → (xs : List B) (i : ℕ) (made all : D) → length xs ≤ i → rest made (drop i xs) ≡ all → made ≡ all
  folded_all none xs i made all le h = sym (none made) ∙ ap (rest made) (sym (drop_all i xs le)) ∙ h
