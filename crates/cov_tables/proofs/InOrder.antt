-- A sorted list with the elements of another is that one in order.
use Rattle.std.proofs.Common.{◌≡◌, ◌↔◌, ℕ, zero, suc, ◌+◌, ◌<◌, Bool, true, false, cond, List, [], ◌∷◌, ◌++◌, map, length, get_or, refl, ap, sym, subst, ◌∙◌, arith}
use Rattle.std.specs.declared.cmp.Ordering.{Ordering}
use Rattle.std.specs.declared.cmp.Ordering.TheVariants.{Less, Equal, Greater}
use Rattle.std.specs.Ordering.{is_lt, match_ordering, ordering_reverse}
use Rattle.std.specs.Cmp.{IsTotalOrder, on_total}
use Rattle.std.specs.FinMap.{IsAntisymmetric}
use Rattle.std.specs.List.{fold, sum_by}
use Rattle.std.specs.List.Sorted.{IsSorted, IsPermutation}
use Rattle.std.proofs.lemmas.List.{append-nil}
use Rattle.std.proofs.lemmas.List.Sorted.{sorted_far, ranks_by, IsPermutation-refl, IsPermutation-trans, IsPermutation-cons, IsPermutation-append, IsPermutation-middle, IsPermutation-map, sum_by-IsPermutation}
use Rattle.std.proofs.lemmas.List.Sums.{sum_by-cons}
use Rattle.cov_tables.specs.Order.{IsInOrder, put_in, in_order}

-- a number of the elements, whichever is asked
abbrev pub Alike : {K : Type 0} → List K → List K → Type 0
Alike {K} xs ys = (f : K → ℕ) → sum_by f xs ≡ sum_by f ys

module _ {K : Type 0} (R : K → K → Ordering) where
  -- none of these is less than x
  abbrev pub NoneBelow : K → List K → Type 0
  NoneBelow x [] = Unit {0}
  NoneBelow x (y ∷ ys) = (is_lt (R y x) ≡ false) × NoneBelow x ys

  abbrev pub Ascends : List K → Type 0
  Ascends [] = Unit {0}
  Ascends (x ∷ xs) = NoneBelow x xs × Ascends xs

  none_below : (x : K) (ys : List K) → ((j : ℕ) → j < length ys → is_lt (R (get_or ys j x) x) ≡ false) → NoneBelow x ys
  none_below x [] h = tt
  none_below x (y ∷ ys) h = (h 0 (omega arith), none_below x ys (λ j p. h (suc j) (omega arith)))

  put-alike : (f : K → ℕ) (ys : List K) (x : K) → sum_by f (put_in R ys x) ≡ f x + sum_by f ys
  put-alike f [] x = sum_by-cons f x []
  put-alike f (y ∷ ys) x =
      elim (R x y) as (λ r. sum_by f (match_ordering r (x ∷ y ∷ ys) (x ∷ y ∷ ys) (y ∷ put_in R ys x)) ≡ f x + sum_by f (y ∷ ys)) [
        | Less ↦ sum_by-cons f x (y ∷ ys)
        | Equal ↦ sum_by-cons f x (y ∷ ys)
        | Greater ↦ (let one = sum_by-cons f y (put_in R ys x) in let two = put-alike f ys x in let three = sum_by-cons f y ys in omega (arith, one, two, three))
      ]

  folded-alike : (f : K → ℕ) (xs acc : List K) → sum_by f (fold (put_in R) acc xs) ≡ sum_by f acc + sum_by f xs
  folded-alike f [] acc = omega arith
  folded-alike f (x ∷ xs) acc = (let one = folded-alike f xs (put_in R acc x) in let two = put-alike f acc x in let three = sum_by-cons f x xs in omega (arith, one, two, three))

  count_below : K → K → ℕ
  count_below x z = cond (is_lt (R z x)) 1 0

  none_counted : (x : K) (ys : List K) → NoneBelow x ys → sum_by (count_below x) ys ≡ 0
  unfolding count_below
  none_counted x [] h = refl
  none_counted x (y ∷ ys) h = sum_by-cons (count_below x) y ys ∙ rw h.0 (let rest = none_counted x ys h.1 in omega (arith, rest))

  not_counted : (b : Bool) (n : ℕ) → cond b 1 0 + n ≡ 0 → b ≡ false
  not_counted true n h = absurd (omega (arith, h))
  not_counted false n h = refl

  put-permutes : (ys : List K) (x : K) → IsPermutation (x ∷ ys) (put_in R ys x)
  put-permutes [] x = IsPermutation-refl (x ∷ [])
  put-permutes (y ∷ ys) x =
      elim (R x y) as (λ r. IsPermutation (x ∷ y ∷ ys) (match_ordering r (x ∷ y ∷ ys) (x ∷ y ∷ ys) (y ∷ put_in R ys x))) [
        | Less ↦ IsPermutation-refl (x ∷ y ∷ ys)
        | Equal ↦ IsPermutation-refl (x ∷ y ∷ ys)
        | Greater ↦ IsPermutation-trans (x ∷ y ∷ ys) (y ∷ x ∷ ys) (y ∷ put_in R ys x) (IsPermutation-middle (x ∷ []) y ys) (IsPermutation-cons y (x ∷ ys) (put_in R ys x) (put-permutes ys x))
      ]

  folded-permutes : (xs acc : List K) → IsPermutation (acc ++ xs) (fold (put_in R) acc xs)
  folded-permutes [] acc = subst (λ ys. IsPermutation ys acc) (sym (append-nil acc)) (IsPermutation-refl acc)
  folded-permutes (x ∷ xs) acc =
      IsPermutation-trans (acc ++ x ∷ xs) (x ∷ (acc ++ xs)) (fold (put_in R) (put_in R acc x) xs) (IsPermutation-middle acc x xs)
      (IsPermutation-trans (x ∷ (acc ++ xs)) (put_in R acc x ++ xs) (fold (put_in R) (put_in R acc x) xs)
      (IsPermutation-append (x ∷ acc) (put_in R acc x) xs xs (put-permutes acc x) (IsPermutation-refl xs)) (folded-permutes xs (put_in R acc x)))

  pub in_order-permutes : (xs : List K) → IsPermutation xs (in_order R xs)
  in_order-permutes xs = folded-permutes xs []

  module _ (o : IsTotalOrder R) where
    not_itself : (x : K) → is_lt (R x x) ≡ false
    not_itself x = by (R x x) (o.antisymm x x)
      where
        by : (r : Ordering) → r ≡ ordering_reverse r → is_lt r ≡ false
        by Less h = absurd cc
        by Equal h = refl
        by Greater h = refl

    neither : (x y : K) → is_lt (R x y) ≡ false → is_lt (R y x) ≡ false → R x y ≡ Equal
    neither x y = by (R x y) (R y x) (o.antisymm x y)
      where
        by : (r s : Ordering) → r ≡ ordering_reverse s → is_lt r ≡ false → is_lt s ≡ false → r ≡ Equal
        by Less s h a b = absurd cc
        by Equal s h a b = refl
        by Greater Less h a b = absurd cc
        by Greater Equal h a b = absurd cc
        by Greater Greater h a b = absurd cc

    pub ascends : (xs : List K) → IsSorted R xs → Ascends xs
    ascends [] h = tt
    ascends (x ∷ xs) h = (
      none_below x xs (λ j p. sorted_far (λ a b. is_lt (R a b)) (ranks_by o (λ a. a)) (x ∷ xs) h 0 (suc j) x (omega arith) (omega arith)),
      ascends xs (λ k d a b. subst (λ (n : ℕ). is_lt (R (get_or (x ∷ xs) n d) (get_or xs k d)) ≡ false) {x = suc k + 1} {y = suc (k + 1)} (omega arith) (h (suc k) d (omega arith) (omega arith))),
    )

    -- what is less than the first is less than all
    below_rest : (x y : K) (ys : List K) → is_lt (R y x) ≡ false → NoneBelow y ys → NoneBelow x ys
    below_rest x y [] h g = tt
    below_rest x y (z ∷ zs) h g = ((ranks_by o (λ a. a)).chain _ _ _ g.0 h, below_rest x y zs h g.1)

    put_below : (x : K) (ys : List K) (z : K) → is_lt (R z x) ≡ false → NoneBelow x ys → NoneBelow x (put_in R ys z)
    put_below x [] z h g = (h, tt)
    put_below x (y ∷ ys) z h g =
        elim (R z y) as (λ r. NoneBelow x (match_ordering r (z ∷ y ∷ ys) (z ∷ y ∷ ys) (y ∷ put_in R ys z))) [
          | Less ↦ (h, g)
          | Equal ↦ (h, g)
          | Greater ↦ (g.0, put_below x ys z h g.1)
        ]

    put-ascends : (ys : List K) (z : K) → Ascends ys → Ascends (put_in R ys z)
    put-ascends [] z h = (tt, tt)
    put-ascends (y ∷ ys) z h =
        elim (R z y) as (λ r. R z y ≡ r → Ascends (match_ordering r (z ∷ y ∷ ys) (z ∷ y ∷ ys) (y ∷ put_in R ys z))) [
          | Less ↦ λ e. let up : is_lt (R y z) ≡ false = rw (o.antisymm y z, e) refl in ((up, below_rest z y ys up h.0), h)
          | Equal ↦ λ e. let up : is_lt (R y z) ≡ false = rw (o.antisymm y z, e) refl in ((up, below_rest z y ys up h.0), h)
          | Greater ↦ λ e. (put_below y ys z (rw e refl) h.0, put-ascends ys z h.1)
        ] refl

    folded-ascends : (xs acc : List K) → Ascends acc → Ascends (fold (put_in R) acc xs)
    folded-ascends [] acc h = h
    folded-ascends (x ∷ xs) acc h = folded-ascends xs (put_in R acc x) (put-ascends acc x h)

    -- a list that ascends is sorted
    sorted-cons : (x y : K) (ys : List K) → is_lt (R y x) ≡ false → IsSorted R (y ∷ ys) → (k : ℕ) (d : K) → k + 1 < length (x ∷ y ∷ ys) → is_lt (R (get_or (x ∷ y ∷ ys) (k + 1) d) (get_or (x ∷ y ∷ ys) k d)) ≡ false
    sorted-cons x y ys h s zero d b = h
    sorted-cons x y ys h s (suc k) d b =
        subst (λ (n : ℕ). is_lt (R (get_or (x ∷ y ∷ ys) n d) (get_or (y ∷ ys) k d)) ≡ false) {x = suc (k + 1)} {y = suc k + 1} (omega arith) (s k d (omega arith) (omega (arith, b)))

    sorted-from : (xs : List K) → Ascends xs → IsSorted R xs
    sorted-from [] h = λ k d a b. absurd (omega (arith, b))
    sorted-from (x ∷ []) h = λ k d a b. absurd (omega (arith, b))
    sorted-from (x ∷ y ∷ ys) h = λ k d a b. sorted-cons x y ys h.0.0 (sorted-from (y ∷ ys) h.1) k d b

    pub in_order-sorted : (xs : List K) → IsSorted R (in_order R xs)
    in_order-sorted xs = sorted-from (in_order R xs) (folded-ascends xs [] tt)

    -- the first of one is not less than that of another
    first_not_below : (x y : K) (xs ys : List K) → NoneBelow x xs → Alike (x ∷ xs) (y ∷ ys) → is_lt (R y x) ≡ false
    unfolding count_below
    first_not_below x y xs ys h g =
        let none = none_counted x (x ∷ xs) (not_itself x, h) in
        not_counted _ (sum_by (count_below x) ys) (sym (sum_by-cons (count_below x) y ys) ∙ sym (g (count_below x)) ∙ none)

  module _ (o : IsTotalOrder R) (same : IsAntisymmetric R) where
    pub one_order : (xs ys : List K) → Ascends xs → Ascends ys → Alike xs ys → xs ≡ ys
    one_order [] [] s t h = refl
    one_order [] (y ∷ ys) s t h = absurd (let one = h (λ _. 1) in let two = sum_by-cons (λ (_ : K). 1) y ys in omega (arith, one, two))
    one_order (x ∷ xs) [] s t h = absurd (let one = h (λ _. 1) in let two = sum_by-cons (λ (_ : K). 1) x xs in omega (arith, one, two))
    one_order (x ∷ xs) (y ∷ ys) s t h =
        let is : x ≡ y = same x y (neither o x y (first_not_below o y x ys xs t.0 (λ f. sym (h f))) (first_not_below o x y xs ys s.0 h)) in
        let rest : Alike xs ys = λ f. let one = h f in let two = sum_by-cons f x xs in let three = sum_by-cons f y ys in let four = ap f is in omega (arith, one, two, three, four) in
        λ i. is i ∷ one_order xs ys s.1 t.1 rest i

    in_order-alike : (f : K → ℕ) (xs : List K) → sum_by f (in_order R xs) ≡ sum_by f xs
    in_order-alike f xs = let sums : sum_by f (in_order R xs) ≡ 0 + sum_by f xs = folded-alike f xs [] in omega (arith, sums)

    -- what a sort gives is the list in order
    pub in_order-is : (xs ys : List K) → IsPermutation xs ys → Ascends ys → ys ≡ in_order R xs
    in_order-is xs ys h up = one_order ys (in_order R xs) up (folded-ascends o xs [] tt) (λ f. sum_by-IsPermutation f xs ys h ∙ sym (in_order-alike f xs))

    -- it is the one list that is sorted and a permutation
    pub in_order-when : (xs ys : List K) → (ys ≡ in_order R xs) ↔ IsInOrder R xs ys
    in_order-when xs ys = (
      λ is. subst (IsInOrder R xs) (sym is) (record { sorted = in_order-sorted o xs; same = in_order-permutes xs }),
      λ h. in_order-is xs ys h.same (ascends o ys h.sorted),
    )

    -- only the elements matter
    pub in_order-of_alike : (xs ys : List K) → Alike xs ys → in_order R xs ≡ in_order R ys
    in_order-of_alike xs ys h = one_order (in_order R xs) (in_order R ys) (folded-ascends o xs [] tt) (folded-ascends o ys [] tt) (λ f. in_order-alike f xs ∙ h f ∙ sym (in_order-alike f ys))

    -- so their order doesn't
    pub in_order-IsPermutation : (xs ys : List K) → IsPermutation xs ys → in_order R xs ≡ in_order R ys
    in_order-IsPermutation xs ys h = in_order-of_alike xs ys (λ f. sym (sum_by-IsPermutation f xs ys h))

-- a list that ascends by what f reads
pub ascends-read : {K X : Type 0} (R : K → K → Ordering) (f : X → K) (xs : List X) → Ascends (λ x y. R (f x) (f y)) xs → Ascends R (map f xs)
ascends-read R f [] h = tt
ascends-read {K} {X} R f (x ∷ xs) h = (by xs h.0, ascends-read R f xs h.1)
  where
    by : (ys : List X) → NoneBelow (λ x y. R (f x) (f y)) x ys → NoneBelow R (f x) (map f ys)
    by [] g = tt
    by (y ∷ ys) g = (g.0, by ys g.1)

-- what a sort gives by the order of what f reads
pub sorted-read : {K X : Type 0} (R : K → K → Ordering) → IsTotalOrder R → IsAntisymmetric R → (f : X → K) (xs ys : List X) → IsPermutation xs ys → IsSorted (λ x y. R (f x) (f y)) ys → map f ys ≡ in_order R (map f xs)
sorted-read R o same f xs ys h up = in_order-is R o same (map f xs) (map f ys) (IsPermutation-map f xs ys h) (ascends-read R f ys (ascends (λ x y. R (f x) (f y)) (on_total f o) ys up))
