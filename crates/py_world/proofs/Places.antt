-- Lists that are changed at a place, or at their end.
use Rattle.std.proofs.Common.{◌≡◌, ℕ, zero, suc, ◌<◌, ◌≤◌, List, [], ◌∷◌, ◌++◌, length, map, Some, None, refl, sym, ap, ◌∙◌, arith}
use Rattle.std.specs.Prelude.{slice_get, slice_set}

pub got_set : {A : Type 0} (xs : List A) (n : ℕ) (x : A) → n < length xs → slice_get (slice_set xs n x) n ≡ Some x
got_set [] n x lt = absurd (omega arith)
got_set (y ∷ ys) zero x lt = refl
got_set (y ∷ ys) (suc n) x lt = got_set ys n x (omega arith)

pub got_other : {A : Type 0} (xs : List A) (n m : ℕ) (x : A) → (m ≡ n → ⊥) → slice_get (slice_set xs n x) m ≡ slice_get xs m
got_other [] n m x ne = refl
got_other (y ∷ ys) zero zero x ne = absurd (ne refl)
got_other (y ∷ ys) zero (suc m) x ne = refl
got_other (y ∷ ys) (suc n) zero x ne = refl
got_other (y ∷ ys) (suc n) (suc m) x ne = got_other ys n m x (λ e. ne (ap suc e))

-- a list that goes on
pub got_before : {A : Type 0} (xs ys : List A) (m : ℕ) → m < length xs → slice_get (xs ++ ys) m ≡ slice_get xs m
got_before [] ys m lt = absurd (omega arith)
got_before (x ∷ xs) ys zero lt = refl
got_before (x ∷ xs) ys (suc m) lt = got_before xs ys m (omega arith)

pub got_last : {A : Type 0} (xs : List A) (x : A) (m : ℕ) → m ≡ length xs → slice_get (xs ++ x ∷ []) m ≡ Some x
got_last [] x zero e = refl
got_last [] x (suc m) e = absurd (omega arith)
got_last (y ∷ ys) x zero e = absurd (omega arith)
got_last (y ∷ ys) x (suc m) e = got_last ys x m (omega arith)

pub got_past : {A : Type 0} (xs : List A) (m : ℕ) → length xs ≤ m → slice_get xs m ≡ None
got_past [] m le = refl
got_past (y ∷ ys) zero le = absurd (omega arith)
got_past (y ∷ ys) (suc m) le = got_past ys m (omega arith)

-- what is kept of an element is kept of a list in which another stands for it
pub kept : {A B : Type 0} (f : A → B) (xs : List A) (n : ℕ) (x y : A) → slice_get xs n ≡ Some x → f y ≡ f x → map f (slice_set xs n y) ≡ map f xs
kept f [] n x y at e = refl
kept f (z ∷ zs) zero x y at e = let same : z ≡ x = cc in ap (λ w. w ∷ map f zs) (e ∙ ap f (sym same))
kept f (z ∷ zs) (suc n) x y at e = ap (λ w. f z ∷ w) (kept f zs n x y at e)
