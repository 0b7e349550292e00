-- What lists contain: one element more, those that pass a test, and those that are none of others.
use Rattle.std.proofs.Common.{◌≡◌, ◌↔◌, ◌⊎◌, inl, inr, ℕ, Bool, true, false, cond, not, List, [], ◌∷◌, Contains, refl, ap, sym, subst, ◌∙◌, arith}
use Rattle.std.specs.Prelude.{nat_eq, filter, ◌||◌}
use Rattle.std.specs.List.{flat_map}
use Rattle.std.proofs.lemmas.Bool.Decides.{Decides-eqb}
use Rattle.std.proofs.lemmas.Cmp.{nat_eq_equiv}
use Rattle.std.proofs.lemmas.List.Elements.{All-contains, All-filter, All-contains_itself, filter_passes, Contains-get_or, Contains-append_right, Contains-append_cases, Contains-push_cases}
use Rattle.std.proofs.lemmas.Map.Views.{Contains-from_any, list_any-from_Contains}
use Rattle.cov_analysis.specs.Lines.{is_among, without}

-- ---- one element more

pub never : {X : Type 0} (y : X) → Contains [] y → ⊥
never y h = absurd (omega (arith, h.1))

pub first-or-later : {X : Type 0} (x : X) (xs : List X) (y : X) → Contains (x ∷ xs) y → (x ≡ y) ⊎ Contains xs y
first-or-later x xs y h = elim (Contains-append_cases (x ∷ []) xs y h) [
  | inl one ↦ elim (Contains-push_cases [] x y one) [ inl none ↦ absurd (never y none) | inr same ↦ inl same ]
  | inr later ↦ inr later
]

pub as-first : {X : Type 0} (x : X) (xs : List X) → Contains (x ∷ xs) x
as-first x xs = Contains-get_or (x ∷ xs) 0 x (omega arith)

pub as-later : {X : Type 0} (x : X) (xs : List X) (y : X) → Contains xs y → Contains (x ∷ xs) y
as-later x xs y h = Contains-append_right (x ∷ []) xs y h

-- ---- those that pass

still-later : {X : Type 0} (b : Bool) (x : X) (xs : List X) (y : X) → Contains xs y → Contains (cond b (x ∷ xs) xs) y
still-later true x xs y h = as-later x xs y h
still-later false x xs y h = h

keeps : {X : Type 0} (p : X → Bool) (xs : List X) (y : X) → Contains xs y → p y ≡ true → Contains (filter p xs) y
keeps p [] y h t = h
keeps p (x ∷ xs) y h t = elim (first-or-later x xs y h) [
  | inl same ↦ subst (λ b. Contains (cond b (x ∷ filter p xs) (filter p xs)) y) (sym (ap p same ∙ t)) (subst (λ z. Contains (x ∷ filter p xs) z) same (as-first x (filter p xs)))
  | inr later ↦ still-later (p x) x (filter p xs) y (keeps p xs y later t)
]

pub kept : {X : Type 0} (p : X → Bool) (xs : List X) (y : X) → Contains (filter p xs) y ↔ (Contains xs y × (p y ≡ true))
kept p xs y = (
  λ h. (All-contains (Contains xs) (filter p xs) y (All-filter p (Contains xs) xs (All-contains_itself xs)) h, All-contains (λ x. p x ≡ true) (filter p xs) y (filter_passes p xs) h),
  λ h. keeps p xs y h.0 h.1,
)

-- ---- tests

pub not-true : (b : Bool) → not b ≡ true → b ≡ true → ⊥
not-true true h t = cc
not-true false h t = cc

pub is-not : (b : Bool) → (b ≡ true → ⊥) → not b ≡ true
is-not true h = absurd (h refl)
is-not false h = refl

pub left-true : (a b : Bool) → a ≡ true → (a || b) ≡ true
left-true true b h = refl
left-true false b h = cc

pub right-true : (a b : Bool) → b ≡ true → (a || b) ≡ true
right-true true b h = refl
right-true false b h = h

pub either-true : (a b : Bool) → (a || b) ≡ true → (a ≡ true) ⊎ (b ≡ true)
either-true true b h = inl refl
either-true false b h = inr h

-- ---- lines among others

pub among : (lines : List ℕ) (line : ℕ) → (is_among lines line ≡ true) ↔ Contains lines line
among lines line = (
  λ h. Contains-from_any {eq = nat_eq} (λ x y e. (Decides-eqb x y).0 e) line lines h,
  λ h. list_any-from_Contains nat_eq_equiv line lines h,
)

pub without-has : (lines others : List ℕ) (line : ℕ) → Contains (without lines others) line ↔ (Contains lines line × ¬ (Contains others line))
without-has lines others line =
    let s = kept (λ l. not (is_among others l)) lines line in (
      λ h. ((s.0 h).0, λ there. not-true (is_among others line) (s.0 h).1 ((among others line).1 there)),
      λ h. s.1 (h.0, is-not (is_among others line) (λ t. h.1 ((among others line).0 t))),
    )

-- ---- lists of lists

pub from-one : {X Y : Type 0} (f : X → List Y) (xs : List X) (y : Y) → Contains (flat_map f xs) y → (x : X) × Contains xs x × Contains (f x) y
from-one f [] y h = absurd (never y h)
from-one f (x ∷ xs) y h = elim (Contains-append_cases (f x) (flat_map f xs) y h) [
  | inl here ↦ (x, as-first x xs, here)
  | inr later ↦ let rest = from-one f xs y later in (rest.0, as-later x xs rest.0 rest.1, rest.2)
]
