-- What stands in lists that are seen plainly.
use Rattle.std.proofs.Common.{◌≡◌, ℕ, zero, suc, ◌≤◌, ℤ, List, [], ◌∷◌, ◌++◌, length, map, take, drop, Some, None, refl, ap, ◌∙◌, arith}
use Rattle.std.specs.Prelude.{Option, slice_get, slice_set, remove, IfSome}
use Rattle.std.specs.Option.{option_map}
use Rattle.std.proofs.lemmas.List.{map-append}
use Rattle.std.proofs.lemmas.Option.{slice_get-map}
use Rattle.py_value.specs.Plain.{PlainValue, int_value}

pub mapped : {A B : Type 0} (f : A → B) (xs : List A) (k : ℕ) (x : A) → slice_get xs k ≡ Some x → slice_get (map f xs) k ≡ Some (f x)
mapped f xs k x e = slice_get-map f xs k ∙ ap (option_map f) e

pub mapped_none : {A B : Type 0} (f : A → B) (xs : List A) (k : ℕ) → slice_get xs k ≡ None → slice_get (map f xs) k ≡ None
mapped_none f xs k e = slice_get-map f xs k ∙ ap (option_map f) e

pub map-take : {A B : Type 0} (f : A → B) (n : ℕ) (xs : List A) → map f (take n xs) ≡ take n (map f xs)
map-take f zero xs = refl
map-take f (suc n) [] = refl
map-take f (suc n) (x ∷ xs) = ap (λ ys. f x ∷ ys) (map-take f n xs)

pub map-drop : {A B : Type 0} (f : A → B) (n : ℕ) (xs : List A) → map f (drop n xs) ≡ drop n (map f xs)
map-drop f zero xs = refl
map-drop f (suc n) [] = refl
map-drop f (suc n) (x ∷ xs) = map-drop f n xs

pub map-remove : {A B : Type 0} (f : A → B) (xs : List A) (k : ℕ) → map f (remove xs k) ≡ remove (map f xs) k
map-remove f xs k = map-append f (take k xs) (drop (suc k) xs) ∙ ap (λ ys. ys ++ map f (drop (suc k) xs)) (map-take f k xs) ∙ ap (λ ys. take k (map f xs) ++ ys) (map-drop f (suc k) xs)

pub map-slice_set : {A B : Type 0} (f : A → B) (xs : List A) (k : ℕ) (x : A) → map f (slice_set xs k x) ≡ slice_set (map f xs) k (f x)
map-slice_set f [] k x = refl
map-slice_set f (y ∷ ys) zero x = refl
map-slice_set f (y ∷ ys) (suc k) x = ap (λ zs. f y ∷ zs) (map-slice_set f ys k x)

pub slice_set_past : {A : Type 0} (xs : List A) (k : ℕ) (x : A) → length xs ≤ k → slice_set xs k x ≡ xs
slice_set_past [] k x le = refl
slice_set_past (y ∷ ys) zero x le = absurd (omega arith)
slice_set_past (y ∷ ys) (suc k) x le = ap (λ zs. y ∷ zs) (slice_set_past ys k x (omega arith))

-- a value that is found, if it is a whole number
pub whole_if : (n : Option ℤ) (v : PlainValue) {o : Option PlainValue} → o ≡ Some v → IfSome n (λ k. v ≡ int_value k) → IfSome n (λ k. o ≡ Some (int_value k))
whole_if None v e h = h
whole_if (Some k) v e h = e ∙ ap Some h
