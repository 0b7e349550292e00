-- Lists that are made one by one, each from an element of another list.
use Rattle.std.proofs.Common.{◌≡◌, ℕ, ◌+◌, ◌<◌, ◌≤◌, List, [], ◌∷◌, ◌++◌, length, map, drop, get_or, append_assoc, sym, ap, ◌∙◌}
use Rattle.std.proofs.lemmas.List.{append-nil, map-append}
use Rattle.py_world.proofs.Walked.{drop_here, all_dropped}

module _ {A B C : Type 0} (f : A → C) (g : B → C) (rest : List B → List C) where
  -- one more
  pub made_more : ((y : B) (ys : List B) → rest (y ∷ ys) ≡ g y ∷ rest ys) → (xs : List B) (i : ℕ) (y : B) (old new : List A) (x : A) (all : List C) → i < length xs → y ≡ get_or xs i y → new ≡ old ++ x ∷ [] → f x ≡ g y
      → map f old ++ rest (drop i xs) ≡ all → map f new ++ rest (drop (i + 1) xs) ≡ all
  made_more opens xs i y old new x all lt at is same h =
      ap (λ zs. map f zs ++ rest (drop (i + 1) xs)) is
      ∙ ap (λ zs. zs ++ rest (drop (i + 1) xs)) (map-append f old (x ∷ []))
      ∙ append_assoc (map f old) (f x ∷ []) (rest (drop (i + 1) xs))
      ∙ ap (λ w. map f old ++ w ∷ rest (drop (i + 1) xs)) same
      ∙ ap (λ ys. map f old ++ ys) (sym (opens y (drop (i + 1) xs)))
      ∙ ap (λ ys. map f old ++ rest ys) (sym (drop_here xs i y lt at))
      ∙ h

  -- all of them
  pub made_all : rest [] ≡ [] → (xs : List B) (i : ℕ) (made : List A) (all : List C) → length xs ≤ i → map f made ++ rest (drop i xs) ≡ all → map f made ≡ all
  made_all none xs i made all le h =
      sym (append-nil (map f made)) ∙ ap (λ ys. map f made ++ ys) (sym none) ∙ ap (λ ys. map f made ++ rest ys) (sym (all_dropped xs i le)) ∙ h
