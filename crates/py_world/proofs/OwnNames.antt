-- Names that have numbers of their own.
use Rattle.std.proofs.Common.{◌≡◌, ◌⊎◌, inl, inr, ℕ, zero, suc, ◌<◌, ◌≤◌, List, [], ◌∷◌, ◌++◌, length, map, Some, None, Bool, true, false, refl, sym, ap, ◌∙◌, arith}
use Rattle.std.specs.List.{IsDistinct}
use Rattle.std.specs.Prelude.{Option, bytes_eq, slice_get}
use Rattle.std.specs.Option.{option_map}
use Rattle.std.proofs.lemmas.Bool.{cases_order}
use Rattle.std.proofs.lemmas.Map.Made.{AllPairs-from_IsDistinct}
use Rattle.std.proofs.lemmas.Option.{get_or_from_slice_get, slice_get-map, slice_get_within, same_Some}
use Rattle.std.proofs.lemmas.Slice.Eq.{bytes_eq-Decides}
use Rattle.py_text.specs.Comparison.{is_same_text}
use Rattle.py_value.specs.Plain.{PlainValue}
use Rattle.py_text.proofs.SameTexts.{same_text, same_text_from}
use Rattle.py_world.specs.Numbered.{Named, Numbered, name_of, times_set, times_named, HaveOwnNames, HasNoNumber, AreListed, without_value}
use Rattle.py_world.proofs.Listed.{IsOther}
use Rattle.py_world.proofs.Times.{times_none}

-- names of which no two are equal
pub own_distinct : (xs : List (List ℕ)) → IsDistinct bytes_eq xs → HaveOwnNames xs
own_distinct xs apart = λ m n x y a b same. by_order m n x a (b ∙ ap (λ z. Some z) (sym (same_text x y same))) (cases_order m n)
  where
    never : (i j : ℕ) (x : List ℕ) → slice_get xs i ≡ Some x → slice_get xs j ≡ Some x → i < j → ⊥
    never i j x a b lt =
        AllPairs-from_IsDistinct bytes_eq-Decides xs apart i j x lt (slice_get_within xs j x b)
        (get_or_from_slice_get xs i x x a ∙ sym (get_or_from_slice_get xs j x x b))

    by_order : (m n : ℕ) (x : List ℕ) → slice_get xs m ≡ Some x → slice_get xs n ≡ Some x → (m ≡ n) ⊎ ((m < n) ⊎ (n < m)) → m ≡ n
    by_order m n x a b (inl e) = e
    by_order m n x a b (inr (inl lt)) = absurd (never m n x a b lt)
    by_order m n x a b (inr (inr lt)) = absurd (never n m x b a lt)

-- what stands in a list with one more at its end
pub data Stands {A : Type 0} (xs : List A) (x : A) (k : ℕ) (y : A) : Type 0 where
  earlier : slice_get xs k ≡ Some y → Stands xs x k y
  last : k ≡ length xs → y ≡ x → Stands xs x k y

pub stands : {A : Type 0} (xs : List A) (x : A) (k : ℕ) (y : A) → slice_get (xs ++ x ∷ []) k ≡ Some y → Stands xs x k y
stands [] x zero y h = last refl (same_Some y x (sym h))
stands [] x (suc k) y h = absurd cc
stands (z ∷ zs) x zero y h = earlier h
stands (z ∷ zs) x (suc k) y h = elim (stands zs x k y h) [ earlier e ↦ earlier e | last e f ↦ last (ap suc e) f ]

-- one more name
pub own_more : (xs : List (List ℕ)) (x : List ℕ) → HaveOwnNames xs → HasNoNumber x xs → HaveOwnNames (xs ++ x ∷ [])
own_more xs x own new = λ m n y z a b s.
    elim (stands xs x m y a) [
      | earlier e ↦ elim (stands xs x n z b) [
        | earlier f ↦ own m n y z e f s
        | last f g ↦ absurd (clash y (new m y e) (sym (same_text y z s ∙ g)))
      ]
      | last e g ↦ elim (stands xs x n z b) [
        | earlier f ↦ absurd (clash z (new n z f) (sym g ∙ same_text y z s))
        | last f h ↦ e ∙ sym f
      ]
    ]
  where
    clash : (y : List ℕ) → is_same_text x y ≡ false → x ≡ y → ⊥
    clash y h e = let t : is_same_text x y ≡ true = same_text_from x y e in absurd cc

-- no other number has the name
pub own_other : (es : Numbered) (n : ℕ) (x : List ℕ) → HaveOwnNames (map name_of es) → slice_get (map name_of es) n ≡ Some x → (m : ℕ) → (m ≡ n → ⊥) → IsOther x (slice_get es m)
own_other es n x own at m ne = λ e there. by_case e there (is_same_text x e.0) refl
  where
    by_case : (e : Named) → slice_get es m ≡ Some e → (b : Bool) → is_same_text x e.0 ≡ b → is_same_text x e.0 ≡ false
    by_case e there true h = absurd (ne (sym (own n m x e.0 at (slice_get-map name_of es m ∙ ap (option_map name_of) there) h)))
    by_case e there false h = h

pub none_other : (es : Numbered) (x : List ℕ) → HasNoNumber x (map name_of es) → (m : ℕ) → IsOther x (slice_get es m)
none_other es x new m = λ e there. new m e.0 (slice_get-map name_of es m ∙ ap (option_map name_of) there)

-- what stands at a number
entry_of : (o : Option Named) (x : List ℕ) → option_map name_of o ≡ Some x → (v : Option PlainValue) × (o ≡ Some (x, v))
entry_of None x h = absurd cc
entry_of (Some e) x h = (e.1, ap (λ y. Some (y, e.1)) (same_Some e.0 x h))

pub entry_at : (es : Numbered) (n : ℕ) (x : List ℕ) → slice_get (map name_of es) n ≡ Some x → (v : Option PlainValue) × (slice_get es n ≡ Some (x, v))
entry_at es n x at = entry_of (slice_get es n) x (sym (slice_get-map name_of es n) ∙ at)

value_of : (v : Option PlainValue) → times_set v ≡ 1 → (w : PlainValue) × (v ≡ Some w)
value_of None h = absurd (omega arith)
value_of (Some w) h = (w, refl)

pub value_there : (es : Numbered) (n : ℕ) (x : List ℕ) → slice_get (map name_of es) n ≡ Some x → times_named (slice_get es n) ≡ 1 → (w : PlainValue) × (slice_get es n ≡ Some (x, Some w))
value_there es n x at h =
    let e = entry_at es n x at in
    let w = value_of e.0 (sym (ap times_named e.1) ∙ h) in
    (w.0, e.1 ∙ ap (λ v. Some (x, v)) w.1)

-- names, none of which is set
module _ {A : Type 0} (name : A → List ℕ) where
  none_set : (xs : List A) (n : ℕ) → 0 ≡ times_named (slice_get (map (λ x. without_value (name x)) xs) n)
  none_set [] n = refl
  none_set (x ∷ xs) zero = refl
  none_set (x ∷ xs) (suc n) = none_set xs n

  pub unset_listed : (xs : List A) → AreListed (map (λ x. without_value (name x)) xs) []
  unset_listed xs = λ n. times_none n ∙ none_set xs n

  pub unset_names : (xs : List A) → map name_of (map (λ x. without_value (name x)) xs) ≡ map name xs
  unset_names [] = refl
  unset_names (x ∷ xs) = ap (λ ys. name x ∷ ys) (unset_names xs)

pub none_named : HaveOwnNames []
none_named = λ m n x y a b s. absurd cc

-- a number is listed once at most
at_most_once : (o : Option PlainValue) → times_set o ≤ 1
at_most_once None = omega arith
at_most_once (Some v) = omega arith

pub once_at_most : (o : Option Named) → times_named o ≤ 1
once_at_most None = omega arith
once_at_most (Some e) = at_most_once e.1
