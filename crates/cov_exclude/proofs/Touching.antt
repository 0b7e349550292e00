-- Whether one of some rising lines lies between two lines, by the first that isn't below the first of them.
use Rattle.std.proofs.Common.{◌≡◌, ℕ, ◌+◌, ◌<◌, ◌≤◌, Bool, true, false, List, [], ◌∷◌, ◌++◌, length, get_or, refl, ap, ap₂, sym, ◌∙◌, arith, ⊎_elim}
use Rattle.std.specs.Prelude.{◌&&◌, nat_le, nat_lt}
use Rattle.std.specs.Cmp.{nat_cmp_is}
use Rattle.std.specs.declared.cmp.Ordering.TheVariants.{Less}
use Rattle.std.specs.List.{AllByRecursion}
use Rattle.std.specs.List.Sorted.{IsStrictlySortedBy, IsPartitionPoint}
use Rattle.std.specs.Ordering.{nat_cmp}
use Rattle.std.proofs.lemmas.Bool.{leb-true, leb-false, ltb-true, ltb-false, le-leb, lt-leb, cases_lt}
use Rattle.std.proofs.lemmas.List.{get_or_default}
use Rattle.std.proofs.lemmas.List.Folds.{list_any_at, list_any_none}
use Rattle.std.proofs.lemmas.Map.Keys.{non_decreasing_from_sorted}
use Rattle.cov_exclude.specs.Touched.{is_within, touches, mark_if, numbers_from, IsRising}

-- ---- the numbers of texts that pass rise

later : (passes : List ℕ → Bool) (n m : ℕ) (texts : List (List ℕ)) → n < m → AllByRecursion (λ k. nat_cmp n k ≡ Less) (numbers_from passes m texts)
later passes n m [] lt = tt
later passes n m (text ∷ texts) lt =
    let rest = later passes n (m + 1) texts (omega arith) in
    let less = sym (nat_cmp_is n m Less lt) in
    elim (passes text) as (λ b. AllByRecursion (λ k. nat_cmp n k ≡ Less) (mark_if b m ++ numbers_from passes (m + 1) texts)) [ true ↦ (less, rest) | false ↦ rest ]

sorted : (passes : List ℕ → Bool) (n : ℕ) (texts : List (List ℕ)) → IsStrictlySortedBy nat_cmp (numbers_from passes n texts)
unfolding IsStrictlySortedBy
sorted passes n [] = tt
sorted passes n (text ∷ texts) =
    let rest = sorted passes (n + 1) texts in
    let all = later passes n (n + 1) texts (omega arith) in
    elim (passes text) as (λ b. IsStrictlySortedBy nat_cmp (mark_if b n ++ numbers_from passes (n + 1) texts)) [ true ↦ (all, rest) | false ↦ rest ]

pub numbers-rise : (passes : List ℕ → Bool) (n : ℕ) (texts : List (List ℕ)) → IsRising (numbers_from passes n texts)
numbers-rise passes n texts = record { rises = sorted passes n texts }

-- ---- a line between two lines

and_false : (b : Bool) → (b && false) ≡ false
and_false true = refl
and_false false = refl

is-below : (first last l : ℕ) → l < first → is_within first last l ≡ false
is-below first last l lt = ap (λ b. b && nat_le l last) (lt-leb first l lt)

is-above : (first last l : ℕ) → last < l → is_within first last l ≡ false
is-above first last l lt = ap (λ b. nat_le first l && b) (lt-leb l last lt) ∙ and_false (nat_le first l)

is-inside : (first last l : ℕ) → first ≤ l → l ≤ last → is_within first last l ≡ true
is-inside first last l low high = ap₂ (λ a b. a && b) (le-leb first l low) (le-leb l last high)

module _ (lines : List ℕ) (first : ℕ) (at : ℕ) (found : IsPartitionPoint (λ l. nat_lt l first ≡ true) (λ l. nat_lt l first ≡ false) lines at) where
  -- there is none from the first of them on
  pub all-below : (last : ℕ) → length lines ≤ at → false ≡ touches lines first last
  all-below last over =
      sym (list_any_none (is_within first last) lines (λ k d lt. is-below first last (get_or lines k d) (ltb-true (get_or lines k d) first (found.0 k d (omega arith) (omega arith)))))

  -- the next one from the first of them on
  module _ (rises : IsRising lines) (next : ℕ) (last : ℕ) (within : at < length lines) (is : next ≡ get_or lines at next) where
    next-inside : nat_le next last ≡ true → true ≡ touches lines first last
    next-inside le =
        let low : first ≤ get_or lines at next = ltb-false (get_or lines at next) first (found.1 at next (omega arith) within) in
        let high : get_or lines at next ≤ last = omega (arith, leb-true next last le, is) in
        sym (list_any_at (is_within first last) lines at next within (is-inside first last (get_or lines at next) low high))

    each-outside : nat_le next last ≡ false → (k d : ℕ) → k < length lines → is_within first last (get_or lines k d) ≡ false
    each-outside gt k d lt =
        ⊎_elim
        (λ below. is-below first last (get_or lines k d) (ltb-true (get_or lines k d) first (found.0 k d (omega arith) below)))
        (λ above. is-above first last (get_or lines k d) (omega (arith, leb-false next last gt, is, non_decreasing_from_sorted lines rises.rises at k next above lt, get_or_default lines k d next lt)))
        (cases_lt k at)

    next-outside : nat_le next last ≡ false → false ≡ touches lines first last
    next-outside gt = sym (list_any_none (is_within first last) lines (each-outside gt))

    pub by-the-next : nat_le next last ≡ touches lines first last
    by-the-next = by-case (nat_le next last) refl
      where
        by-case : (b : Bool) → nat_le next last ≡ b → b ≡ touches lines first last
        by-case true e = next-inside e
        by-case false e = next-outside e
