-- Operands taken away, and put below others.
use Rattle.std.proofs.Common.{◌≡◌, ℕ, zero, suc, ◌+◌, ◌-◌, ◌<◌, ◌≤◌, List, [], ◌∷◌, ◌++◌, length, map, take, drop, Option, Some, None, true, refl, sym, ap, ◌∙◌, arith}
use Rattle.std.specs.Prelude.{slice_get, remove, reverse, nat_le, MatchOption}
use Rattle.std.proofs.lemmas.Bool.Decides.{nat_tests}
use Rattle.std.proofs.lemmas.List.{map-append, length-map, reverse-append}
use Rattle.py_world.proofs.Lookups.{mapped, mapped_none, map-take, map-drop, map-remove}

le_true : (a b : ℕ) → a ≤ b → nat_le a b ≡ true
le_true a b h = grind (arith, nat_tests)

fits : {A B : Type 0} (f : A → B) (n : ℕ) (xs : List A) → n ≤ length xs → nat_le n (length (map f xs)) ≡ true
fits f n xs le = ap (nat_le n) (length-map xs f) ∙ le_true n (length xs) le

pub discarded : {A B : Type 0} (f : A → B) (old new : List A) (n count : ℕ) → count ≡ length old → n ≤ count → new ≡ drop (length old - (count - n)) old
    → (nat_le n (length (map f old)) ≡ true) × (map f new ≡ drop n (map f old))
discarded f old new n count e le is =
    let k : length old - (count - n) ≡ n = omega arith in
    (fits f n old (omega arith), ap (map f) is ∙ map-drop f (length old - (count - n)) old ∙ ap (λ j. drop j (map f old)) k)

pub inserted : {A B : Type 0} (f : A → B) (old new : List A) (n : ℕ) (x : A) → n ≤ length old → new ≡ take n old ++ x ∷ drop n old
    → (nat_le n (length (map f old)) ≡ true) × (map f new ≡ take n (map f old) ++ f x ∷ drop n (map f old))
inserted f old new n x le is = (
  fits f n old le,
  ap (map f) is ∙ map-append f (take n old) (x ∷ drop n old) ∙ ap (λ ys. ys ++ f x ∷ map f (drop n old)) (map-take f n old) ∙ ap (λ ys. take n (map f old) ++ f x ∷ ys) (map-drop f n old),
)

pub taken : {A B : Type 0} (f : A → B) (old new : List A) (n : ℕ) (o : Option A)
    → MatchOption o ((slice_get old n ≡ None) × (new ≡ old)) (λ x. (slice_get old n ≡ Some x) × (new ≡ remove old n))
    → MatchOption o (slice_get (map f old) n ≡ None) (λ x. (slice_get (map f old) n ≡ Some (f x)) × (map f new ≡ remove (map f old) n))
taken f old new n None h = mapped_none f old n h.0
taken f old new n (Some x) h = (mapped f old n x h.0, ap (map f) h.1 ∙ map-remove f old n)

-- one more is popped
pub rest_after : {A : Type 0} (k : ℕ) (old : List A) (x : A) (new : List A) → drop k old ≡ x ∷ new → new ≡ drop (suc k) old
rest_after zero [] x new e = absurd cc
rest_after zero (y ∷ ys) x new e = let t : ys ≡ new = cc in sym t
rest_after (suc k) [] x new e = absurd cc
rest_after (suc k) (y ∷ ys) x new e = rest_after k ys x new e

pub front_after : {A B : Type 0} (f : A → B) (k : ℕ) (old : List A) (x : A) (new : List A) → drop k old ≡ x ∷ new → take (suc k) (map f old) ≡ take k (map f old) ++ f x ∷ []
front_after f zero [] x new e = absurd cc
front_after f zero (y ∷ ys) x new e = let h : y ≡ x = cc in ap (λ z. f z ∷ []) h
front_after f (suc k) [] x new e = absurd cc
front_after f (suc k) (y ∷ ys) x new e = ap (λ zs. f y ∷ zs) (front_after f k ys x new e)

pub one_on : (n : ℕ) → n + 1 ≡ suc n
one_on n = omega arith

pub not_empty : {A : Type 0} (k : ℕ) (old : List A) → k < length old → drop k old ≡ [] → ⊥
not_empty zero [] lt e = omega arith
not_empty zero (y ∷ ys) lt e = absurd cc
not_empty (suc k) [] lt e = omega arith
not_empty (suc k) (y ∷ ys) lt e = not_empty k ys (omega arith) e

pub map-reverse : {A B : Type 0} (f : A → B) (xs : List A) → map f (reverse xs) ≡ reverse (map f xs)
map-reverse f [] = refl
map-reverse f (x ∷ xs) =
    ap (map f) (reverse-append (x ∷ []) xs) ∙ map-append f (reverse xs) (x ∷ []) ∙ ap (λ ys. ys ++ f x ∷ []) (map-reverse f xs) ∙ sym (reverse-append (f x ∷ []) (map f xs))
