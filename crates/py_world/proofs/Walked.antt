-- A list that is walked by its places, until one is found.
use Rattle.std.proofs.Common.{◌≡◌, ℕ, zero, suc, ◌+◌, ◌<◌, ◌≤◌, List, [], ◌∷◌, ◌++◌, length, map, take, drop, get_or, refl, sym, ap, ◌∙◌, arith, append_assoc}
use Rattle.std.specs.Prelude.{slice_set, remove}
use Rattle.std.proofs.lemmas.List.{map-append, drop_more, take_more, take_all, drop_all}

-- the list at a place
pub drop_here : {A : Type 0} (xs : List A) (p : ℕ) (x : A) → p < length xs → x ≡ get_or xs p x → drop p xs ≡ x ∷ drop (p + 1) xs
drop_here xs p x lt e = drop_more xs p x lt ∙ ap (λ y. y ∷ drop (p + 1) xs) (sym e)

pub all_dropped : {A : Type 0} (xs : List A) (p : ℕ) → length xs ≤ p → drop p xs ≡ []
all_dropped xs p le = drop_all p xs le

pub take_here : {A : Type 0} (xs : List A) (p : ℕ) (x : A) → p < length xs → x ≡ get_or xs p x → take (p + 1) xs ≡ take p xs ++ x ∷ []
take_here xs p x lt e = take_more xs p x lt ∙ ap (λ y. take p xs ++ y ∷ []) (sym e)

pub get_or_any : {A : Type 0} (xs : List A) (p : ℕ) (x y : A) → p < length xs → get_or xs p x ≡ get_or xs p y
get_or_any [] p x y lt = absurd (omega arith)
get_or_any (z ∷ zs) zero x y lt = refl
get_or_any (z ∷ zs) (suc p) x y lt = get_or_any zs p x y (omega arith)

pub one_on : (n : ℕ) → suc n ≡ n + 1
one_on n = omega arith

set_here : {A : Type 0} (xs : List A) (p : ℕ) (y : A) → p < length xs → slice_set xs p y ≡ take p xs ++ y ∷ drop (suc p) xs
set_here [] p y lt = absurd (omega arith)
set_here (x ∷ xs) zero y lt = refl
set_here (x ∷ xs) (suc p) y lt = ap (λ zs. x ∷ zs) (set_here xs p y (omega arith))

module _ {A B : Type 0} (f : A → B) (change : List B → List B) (xs : List A) (whole : List B) (p : ℕ) where
  abbrev pub Walked : Type 0
  Walked = map f (take p xs) ++ change (map f (drop p xs)) ≡ whole

  module _ (x : A) (lt : p < length xs) (e : x ≡ get_or xs p x) (h : Walked) where
    here : map f (take p xs) ++ change (f x ∷ map f (drop (p + 1) xs)) ≡ whole
    here = ap (λ ys. map f (take p xs) ++ change (map f ys)) (sym (drop_here xs p x lt e)) ∙ h

    -- it isn't there
    pub walk_on : change (f x ∷ map f (drop (p + 1) xs)) ≡ f x ∷ change (map f (drop (p + 1) xs)) → map f (take (p + 1) xs) ++ change (map f (drop (p + 1) xs)) ≡ whole
    walk_on k =
        ap (λ ys. map f ys ++ change (map f (drop (p + 1) xs))) (take_here xs p x lt e)
        ∙ ap (λ ys. ys ++ change (map f (drop (p + 1) xs))) (map-append f (take p xs) (x ∷ []))
        ∙ append_assoc (map f (take p xs)) (f x ∷ []) (change (map f (drop (p + 1) xs)))
        ∙ ap (λ ys. map f (take p xs) ++ ys) (sym k)
        ∙ here

    -- it is changed there
    pub walk_set : (y : A) → change (f x ∷ map f (drop (p + 1) xs)) ≡ f y ∷ map f (drop (p + 1) xs) → map f (slice_set xs p y) ≡ whole
    walk_set y k = ap (map f) (set_here xs p y lt ∙ ap (λ k. take p xs ++ y ∷ drop k xs) (one_on p)) ∙ map-append f (take p xs) (y ∷ drop (p + 1) xs) ∙ ap (λ ys. map f (take p xs) ++ ys) (sym k) ∙ here

  -- it is nowhere
  pub walk_end : length xs ≤ p → Walked → map f xs ++ change [] ≡ whole
  walk_end le h =
      ap (λ ys. map f ys ++ change []) (sym (take_all p xs le)) ∙ ap (λ ys. map f (take p xs) ++ change (map f ys)) (sym (drop_all p xs le)) ∙ h

-- it is taken away there
pub walk_remove : {A B : Type 0} (f : A → B) (change : List B → List B) (xs : List A) (whole : List B) (p : ℕ) (x : A) → p < length xs → x ≡ get_or xs p x → Walked f change xs whole p
    → change (f x ∷ map f (drop (p + 1) xs)) ≡ change (map f (drop (p + 1) xs)) → Walked f change (remove xs p) whole p
walk_remove f change xs whole p x lt e h k =
    ap (λ ys. map f ys ++ change (map f (drop p (remove xs p)))) (take_removed xs p lt)
    ∙ ap (λ ys. map f (take p xs) ++ change (map f ys)) (drop_removed xs p lt ∙ ap (λ k. drop k xs) (one_on p))
    ∙ ap (λ ys. map f (take p xs) ++ ys) (sym k)
    ∙ ap (λ ys. map f (take p xs) ++ change (map f ys)) (sym (drop_here xs p x lt e))
    ∙ h
  where
    take_removed : {A : Type 0} (xs : List A) (p : ℕ) → p < length xs → take p (remove xs p) ≡ take p xs
    take_removed [] p lt = absurd (omega arith)
    take_removed (x ∷ xs) zero lt = refl
    take_removed (x ∷ xs) (suc p) lt = ap (λ zs. x ∷ zs) (take_removed xs p (omega arith))

    drop_removed : {A : Type 0} (xs : List A) (p : ℕ) → p < length xs → drop p (remove xs p) ≡ drop (suc p) xs
    drop_removed [] p lt = absurd (omega arith)
    drop_removed (x ∷ xs) zero lt = refl
    drop_removed (x ∷ xs) (suc p) lt = drop_removed xs p (omega arith)
