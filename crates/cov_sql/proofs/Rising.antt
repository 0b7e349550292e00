-- Lists that rise: each element is less than those after it.
--     all_append, all_at       what holds of each element
--     Rise                     a list that rises
--     entries_rise, map_rise, append_rise, rises_rise, rise_from, sorted_from    such lists
--     in_order-rise            one stands in order
use Rattle.std.proofs.Common.{◌≡◌, ℕ, zero, suc, List, [], ◌∷◌, ◌++◌, map, slice_get, Some, ap, sym, subst, ◌∙◌}
use Rattle.std.specs.declared.cmp.Ordering.{Ordering}
use Rattle.std.specs.declared.cmp.Ordering.TheVariants.{Less}
use Rattle.std.specs.Prelude.{T}
use Rattle.std.specs.Ordering.{is_lt, ordering_reverse}
use Rattle.std.specs.Cmp.{IsTotalOrder}
use Rattle.std.specs.List.{AllByRecursion}
use Rattle.std.specs.List.Sorted.{IsStrictlySortedBy}
use Rattle.std.specs.FinMap.{IsAntisymmetric, is_sorted}
use Rattle.std.specs.FinMap.Entries.{below_all}
use Rattle.std.proofs.lemmas.List.Sorted.{IsPermutation-refl}
use Rattle.std.proofs.lemmas.Option.{same_Some}
use Rattle.cov_data.proofs.MapViews.{first, second, less}
use Rattle.cov_data.proofs.Distinct.{marked, Rises}
use Rattle.cov_tables.specs.Order.{in_order}
use Rattle.cov_tables.proofs.InOrder.{NoneBelow, Ascends, in_order-is}

pub all_append : {K : Type 0} (P : K → Type 0) (xs ys : List K) → AllByRecursion P xs → AllByRecursion P ys → AllByRecursion P (xs ++ ys)
all_append P [] ys h g = g
all_append P (x ∷ xs) ys h g = (h.0, all_append P xs ys h.1 g)

pub all_at : {K : Type 0} (P : K → Type 0) (xs : List K) → AllByRecursion P xs → (i : ℕ) (x : K) → slice_get xs i ≡ Some x → P x
all_at P [] h i x is = absurd cc
all_at P (y ∷ ys) h zero x is = subst P (same_Some y x is) h.0
all_at P (y ∷ ys) h (suc i) x is = all_at P ys h.1 i x is

abbrev pub Rise : {K : Type 0} → (K → K → Ordering) → List K → Type 0
Rise R [] = Unit {0}
Rise R (x ∷ xs) = AllByRecursion (λ y. R x y ≡ Less) xs × Rise R xs

pub rise_from : {K : Type 0} (R : K → K → Ordering) (xs : List K) → IsStrictlySortedBy R xs → Rise R xs
unfolding IsStrictlySortedBy
rise_from R [] h = tt
rise_from R (x ∷ xs) h = (h.0, rise_from R xs h.1)

pub sorted_from : {K : Type 0} (R : K → K → Ordering) (xs : List K) → Rise R xs → IsStrictlySortedBy R xs
unfolding IsStrictlySortedBy
sorted_from R [] h = tt
sorted_from R (x ∷ xs) h = (h.0, sorted_from R xs h.1)

module _ {K X : Type 0} (R : K → K → Ordering) where
  pub keys_below : (x : K) (es : List (K × X)) → T (below_all R x es) → AllByRecursion (λ e. R x e.0 ≡ Less) es
  keys_below x [] h = tt
  keys_below x (e ∷ es) h = (less _ (first _ _ h), keys_below x es (second _ _ h))

  pub entries_rise : (es : List (K × X)) → T (is_sorted R es) → Rise (λ a b. R a.0 b.0) es
  entries_rise [] h = tt
  entries_rise (e ∷ es) h = (keys_below e.0 es (first _ _ h), entries_rise es (second _ _ h))

module _ {A B : Type 0} (R : A → A → Ordering) (S : B → B → Ordering) (f : A → B) (keeps : (x y : A) → R x y ≡ Less → S (f x) (f y) ≡ Less) where
  map_below : (x : A) (ys : List A) → AllByRecursion (λ y. R x y ≡ Less) ys → AllByRecursion (λ z. S (f x) z ≡ Less) (map f ys)
  map_below x [] h = tt
  map_below x (y ∷ ys) h = (keeps x y h.0, map_below x ys h.1)

  pub map_rise : (xs : List A) → Rise R xs → Rise S (map f xs)
  map_rise [] h = tt
  map_rise (x ∷ xs) h = (map_below x xs h.0, map_rise xs h.1)

module _ {K : Type 0} (R : K → K → Ordering) where
  pub append_rise : (xs ys : List K) → Rise R xs → AllByRecursion (λ x. AllByRecursion (λ y. R x y ≡ Less) ys) xs → Rise R ys → Rise R (xs ++ ys)
  append_rise [] ys h g k = k
  append_rise (x ∷ xs) ys h g k = (all_append (λ y. R x y ≡ Less) xs ys h.0 g.0, append_rise xs ys h.1 g.1 k)

  marked_below : (x : K) (ks : List K) → T (below_all R x (marked ks)) → AllByRecursion (λ y. R x y ≡ Less) ks
  marked_below x [] h = tt
  marked_below x (k ∷ ks) h = (less _ (first _ _ h), marked_below x ks (second _ _ h))

  pub rises_rise : (ks : List K) → Rises R ks → Rise R ks
  rises_rise [] h = tt
  rises_rise (k ∷ ks) h = (marked_below k ks (first _ _ h), rises_rise ks (second _ _ h))

module _ {K : Type 0} (R : K → K → Ordering) (o : IsTotalOrder R) (same : IsAntisymmetric R) where
  none_below : (x : K) (ys : List K) → AllByRecursion (λ y. R x y ≡ Less) ys → NoneBelow R x ys
  none_below x [] h = tt
  none_below x (y ∷ ys) h = (ap is_lt (o.antisymm y x ∙ ap ordering_reverse h.0), none_below x ys h.1)

  ascends : (xs : List K) → Rise R xs → Ascends R xs
  ascends [] h = tt
  ascends (x ∷ xs) h = (none_below x xs h.0, ascends xs h.1)

  pub in_order-rise : (xs : List K) → Rise R xs → in_order R xs ≡ xs
  in_order-rise xs h = sym (in_order-is R o same xs xs (IsPermutation-refl xs) (ascends xs h))
