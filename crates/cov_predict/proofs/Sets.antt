-- Lists in order: a list that rises is the one list with its elements that does.
use Rattle.std.specs.List.{dedup, dedup_from}
use Rattle.std.proofs.Common.{◌≡◌, ℕ, ℤ, ◌<◌, Bool, true, false, cond, nat_lt, nat_eq, if◌then◌else◌, List, [], ◌∷◌, map, length, get_or, Option, Some, None, Ordering, refl, ap, sym, subst, ◌∙◌, ◌≤◌, Err, arith, ⊎_elim}
use Rattle.std.specs.declared.cmp.Ordering.TheVariants.{Less, Equal, Greater}
use Rattle.std.specs.Prelude.{T, ◌||◌, ◌&&◌, ◌⊎◌}
use Rattle.std.specs.Ordering.{eq_by_cmp, is_eq, is_lt, int_cmp, nat_cmp, match_ordering, ordering_index, ordering_reverse, ordering_then, int_eq}
use Rattle.std.specs.Cmp.{IsTotalOrder}
use Rattle.std.specs.Cmp.{then_total, on_total}
use Rattle.std.proofs.lemmas.Cmp.{int_cmp_total, tied_itself}
use Rattle.std.specs.FinMap.{int_cmp-IsAntisymmetric}
use Rattle.std.proofs.lemmas.Map.Lookups.{exact_pairs}
use Rattle.std.proofs.lemmas.Map.Keys.{Less-from_sorted}
use Rattle.std.proofs.lemmas.List.Sorted.{list_any-IsPermutation}
use Rattle.std.proofs.lemmas.List.Filters.{dedup_is}
use Rattle.std.proofs.lemmas.List.Kept.{IsStrictlySortedBy-dedup}
use Rattle.py_syntax.specs.Prediction.{Arc, by_ends, arcs_in_order}
use Rattle.py_syntax.specs.Marks.{in_order, with_line}
use Rattle.std.specs.List.{Contains, list_any, AllByRecursion}
use Rattle.std.specs.List.Sorted.{IsStrictlySortedBy, IsSorted, IsPermutation, IsBinarySearchResult}
use Rattle.std.specs.List.Retain.{IsFiltered, DiffersFromLast}
use Rattle.std.specs.BTreeSet.{insert_key}
use Rattle.std.specs.FinMap.{IsAntisymmetric, find, put, is_sorted}
use Rattle.std.specs.FinMap.Entries.{below_all, by_order, is_sorted-put, find-put, same_entries}

-- a list as the entries of a set
abbrev pub marked : {K : Type 0} → List K → List (K × Unit {0})
marked ks = map (λ k. (k, tt)) ks

-- the elements rise
abbrev pub Rises : {K : Type 0} → (K → K → Ordering) → List K → Type 0
Rises R ks = T (is_sorted R (marked ks))

-- a list's elements in order, each once
abbrev pub ordered : {K : Type 0} → (K → K → Ordering) → List K → List K
ordered R [] = []
ordered R (k ∷ ks) = insert_key R (ordered R ks) k

unmarked : {K : Type 0} (ks : List K) → map (λ e. e.0) (marked ks) ≡ ks
unmarked [] = refl
unmarked (k ∷ ks) = ap (λ xs. k ∷ xs) (unmarked ks)

present : Bool → Option (Unit {0}) → Option (Unit {0})
present b o = cond b (Some tt) o

present-or : (a b : Bool) (o : Option (Unit {0})) → present a (present b o) ≡ present (a || b) o
unfolding present
present-or true b o = refl
present-or false b o = refl

both : (a b : Bool) → T a → T b → T (a && b)
both true b p q = q
both false b p q = p

or_twice : (a b : Bool) → (a || b) ≡ (a || (a || b))
or_twice true b = refl
or_twice false b = refl

tied : (r : Ordering) → is_eq r ≡ true → r ≡ Equal
tied Less e = cc
tied Equal e = refl
tied Greater e = cc

apart_less : (r : Ordering) → r ≡ Less → r ≡ Equal → ⊥
apart_less r e f = cc

apart_greater : (r : Ordering) → r ≡ Greater → r ≡ Equal → ⊥
apart_greater r e f = cc

same_or_less : (j k : ℕ) → j ≤ k → (j ≡ k) ⊎ (j < k)
same_or_less j k le = grind arith

below_or_above : (k i : ℕ) → (k < i) ⊎ (i ≤ k)
below_or_above k i = grind arith

at_most_two : (r : Ordering) → ordering_index r ≤ 2
at_most_two Less = omega arith
at_most_two Equal = omega arith
at_most_two Greater = omega arith

module _ {K : Type 0} (R : K → K → Ordering) where
  marked-insert_key : (k : K) (ks : List K) → marked (insert_key R ks k) ≡ put R k tt (marked ks)
  marked-insert_key k [] = refl
  marked-insert_key k (x ∷ xs) =
      elim (R k x) as (λ r. marked (match_ordering r (k ∷ x ∷ xs) (x ∷ xs) (x ∷ insert_key R xs k)) ≡ by_order r ((k, tt) ∷ marked (x ∷ xs)) ((x, tt) ∷ marked xs) ((x, tt) ∷ put R k tt (marked xs))) [
        | Less ↦ refl
        | Equal ↦ refl
        | Greater ↦ ap (λ es. (x, tt) ∷ es) (marked-insert_key k xs)
      ]

  find-marked : (q : K) (ks : List K) → find R q (marked ks) ≡ present (list_any (eq_by_cmp R q) ks) None
  unfolding present
  find-marked q [] = refl
  find-marked q (k ∷ ks) = ap (cond (eq_by_cmp R q k) (Some tt)) (find-marked q ks) ∙ present-or (eq_by_cmp R q k) (list_any (eq_by_cmp R q) ks) None

  below-marked : (x : K) (ks : List K) → AllByRecursion (λ y. R x y ≡ Less) ks → T (below_all R x (marked ks))
  below-marked x [] h = tt
  below-marked x (k ∷ ks) h = both (is_lt (R x k)) (below_all R x (marked ks)) (subst (λ r. T (is_lt r)) (sym h.0) tt) (below-marked x ks h.1)

  pub rises_from_sorted : (ks : List K) → IsStrictlySortedBy R ks → Rises R ks
  unfolding IsStrictlySortedBy
  rises_from_sorted [] h = tt
  rises_from_sorted (k ∷ ks) h = both (below_all R k (marked ks)) (is_sorted R (marked ks)) (below-marked k ks h.0) (rises_from_sorted ks h.1)

  module _ (o : IsTotalOrder R) where
    pub ordered-Rises : (ks : List K) → Rises R (ordered R ks)
    ordered-Rises [] = tt
    ordered-Rises (k ∷ ks) = subst (λ es. T (is_sorted R es)) (sym (marked-insert_key k (ordered R ks))) (is_sorted-put R o k tt (marked (ordered R ks)) (ordered-Rises ks))

    find-ordered : (q : K) (ks : List K) → find R q (marked (ordered R ks)) ≡ present (list_any (eq_by_cmp R q) ks) None
    unfolding present
    find-ordered q [] = refl
    find-ordered q (k ∷ ks) =
        ap (find R q) (marked-insert_key k (ordered R ks))
        ∙ find-put R o q k tt (marked (ordered R ks))
        ∙ ap (cond (eq_by_cmp R q k) (Some tt)) (find-ordered q ks)
        ∙ present-or (eq_by_cmp R q k) (list_any (eq_by_cmp R q) ks) None

    -- a rising list with the elements of ks
    pub ordered-unique : IsAntisymmetric R → (xs ks : List K) → Rises R xs → ((q : K) → list_any (eq_by_cmp R q) xs ≡ list_any (eq_by_cmp R q) ks) → xs ≡ ordered R ks
    ordered-unique same xs ks h alike =
        sym (unmarked xs)
        ∙ ap (λ es. map (λ e. e.0) es) (same_entries R o same (marked xs) (marked (ordered R ks)) h (ordered-Rises ks)
        (λ q. find-marked q xs ∙ ap (λ b. present b None) (alike q) ∙ sym (find-ordered q ks)))
        ∙ unmarked (ordered R ks)

    -- lists with the same elements are one list in order
    pub ordered-same : IsAntisymmetric R → (xs ks : List K) → ((q : K) → list_any (eq_by_cmp R q) xs ≡ list_any (eq_by_cmp R q) ks) → ordered R xs ≡ ordered R ks
    ordered-same same xs ks alike =
        sym (unmarked (ordered R xs))
        ∙ ap (λ es. map (λ e. e.0) es) (same_entries R o same (marked (ordered R xs)) (marked (ordered R ks)) (ordered-Rises xs) (ordered-Rises ks)
        (λ q. find-ordered q xs ∙ ap (λ b. present b None) (alike q) ∙ sym (find-ordered q ks)))
        ∙ unmarked (ordered R ks)

    any-dedup_from : IsAntisymmetric R → (E : K → K → Bool) → ((x y : K) → E x y ≡ eq_by_cmp R x y) → (q k : K) (xs : List K) → list_any (eq_by_cmp R q) (dedup_from E k xs) ≡ (eq_by_cmp R q k || list_any (eq_by_cmp R q) xs)
    any-dedup_from same E ties q k [] = refl
    any-dedup_from same E ties q k (x ∷ xs) =
        elim (E x k) as (λ b. E x k ≡ b → list_any (eq_by_cmp R q) (cond b (dedup_from E k xs) (k ∷ dedup_from E x xs)) ≡ (eq_by_cmp R q k || (eq_by_cmp R q x || list_any (eq_by_cmp R q) xs))) [
          | true ↦ λ e. any-dedup_from same E ties q k xs
              ∙ or_twice (eq_by_cmp R q k) (list_any (eq_by_cmp R q) xs)
              ∙ ap (λ y. eq_by_cmp R q k || (eq_by_cmp R q y || list_any (eq_by_cmp R q) xs)) (sym (same x k (tied (R x k) (sym (ties x k) ∙ e))))
          | false ↦ λ e. ap (λ b. eq_by_cmp R q k || b) (any-dedup_from same E ties q x xs)
        ] refl

    any-dedup : IsAntisymmetric R → (E : K → K → Bool) → ((x y : K) → E x y ≡ eq_by_cmp R x y) → (q : K) (xs : List K) → list_any (eq_by_cmp R q) (dedup E xs) ≡ list_any (eq_by_cmp R q) xs
    any-dedup same E ties q [] = refl
    any-dedup same E ties q (x ∷ xs) = any-dedup_from same E ties q x xs

    -- what a sort and a `dedup` make
    pub sorted_and_deduped : IsAntisymmetric R → (E : K → K → Bool) → ((x y : K) → E x y ≡ eq_by_cmp R x y) → (old new kept : List K) → IsPermutation old new → IsSorted R new → IsFiltered (DiffersFromLast E) [] new kept
        → (kept ≡ ordered R old) × IsStrictlySortedBy R kept
    sorted_and_deduped same E ties old new kept moved sorted filtered =
        let is = dedup_is E new kept filtered in
        let rises = IsStrictlySortedBy-dedup o ties new sorted in (
          is ∙ ordered-unique same (dedup E new) old (rises_from_sorted (dedup E new) rises) (λ q. any-dedup same E ties q new ∙ sym (list_any-IsPermutation (eq_by_cmp R q) old new moved)),
          subst (IsStrictlySortedBy R) (sym is) rises,
        )

    -- what ties with a greater key is greater
    below_tied : (a b q : K) → R a b ≡ Less → R b q ≡ Equal → R a q ≡ Less
    below_tied a b q less e = o.antisymm a q ∙ ap ordering_reverse (sym (o.congr b q a e) ∙ o.antisymm b a ∙ ap ordering_reverse less)

    at_most_later : (a b q : K) → R a b ≡ Less → ordering_index (R a q) ≤ ordering_index (R b q)
    at_most_later a b q less =
        elim (R b q) as (λ r. R b q ≡ r → ordering_index (R a q) ≤ ordering_index r) [
          | Less ↦ λ e. omega (arith, ap ordering_index (o.trans a b q less e))
          | Equal ↦ λ e. omega (arith, ap ordering_index (below_tied a b q less e))
          | Greater ↦ λ e. at_most_two (R a q)
        ] refl

    within : (xs : List K) (q : K) → IsStrictlySortedBy R xs → (j k : ℕ) (d : K) → j ≤ k → k < length xs → ordering_index (R (get_or xs j d) q) ≤ ordering_index (R (get_or xs k d) q)
    within xs q rises j k d le lt =
        ⊎_elim
        (λ same. omega (arith, ap (λ n. ordering_index (R (get_or xs n d) q)) same))
        (λ less. at_most_later (get_or xs j d) (get_or xs k d) q (Less-from_sorted R xs j k d rises less lt))
        (same_or_less j k le)

    -- a list in order in which a search fails doesn't have the element
    pub not_found : (xs : List K) (q : K) (i : ℕ) → IsStrictlySortedBy R xs → IsBinarySearchResult (λ y. R y q) xs (Err i) → Contains xs q → ⊥
    not_found xs q i rises found has =
        let parts = found (λ j k d le lt. within xs q rises j k d le lt) in
        let tie = ap (λ y. R y q) has.2 ∙ tied_itself o q in
        ⊎_elim
        (λ below. apart_less _ (parts.0 has.0 q (omega arith) below) tie)
        (λ above. apart_greater _ (parts.1 has.0 q above has.1) tie)
        (below_or_above has.0 i)

pub by_ends-total : IsTotalOrder by_ends
by_ends-total = then_total (on_total (λ (a : Arc). a.0) int_cmp_total) (on_total (λ (a : Arc). a.1) int_cmp_total)

pub by_ends-IsAntisymmetric : IsAntisymmetric by_ends
by_ends-IsAntisymmetric = exact_pairs int_cmp int_cmp int_cmp-IsAntisymmetric int_cmp-IsAntisymmetric

with_line-is : (l : ℕ) (ks : List ℕ) → with_line l ks ≡ insert_key nat_cmp ks l
with_line-is l [] = refl
with_line-is l (k ∷ ks) =
    elim (nat_lt l k) as (λ b. (if b then l ∷ k ∷ ks else (if nat_eq l k then k ∷ ks else k ∷ with_line l ks)) ≡ match_ordering (cond b Less (cond (nat_eq l k) Equal Greater)) (l ∷ k ∷ ks) (k ∷ ks) (k ∷ insert_key nat_cmp ks l)) [
      | true ↦ refl
      | false ↦ elim (nat_eq l k) as (λ b. (if b then k ∷ ks else k ∷ with_line l ks) ≡ match_ordering (cond b Equal Greater) (l ∷ k ∷ ks) (k ∷ ks) (k ∷ insert_key nat_cmp ks l)) [ true ↦ refl | false ↦ ap (λ xs. k ∷ xs) (with_line-is l ks) ]
    ]

pub in_order-is : (ks : List ℕ) → in_order ks ≡ ordered nat_cmp ks
in_order-is [] = refl
in_order-is (k ∷ ks) = with_line-is k (in_order ks) ∙ ap (λ xs. insert_key nat_cmp xs k) (in_order-is ks)

pub arcs_in_order-is : (arcs : List Arc) → arcs_in_order arcs ≡ ordered by_ends arcs
arcs_in_order-is [] = refl
arcs_in_order-is (a ∷ rest) = ap (λ xs. insert_key by_ends xs a) (arcs_in_order-is rest)

both_tied : (r s : Ordering) → (is_eq r && is_eq s) ≡ is_eq (ordering_then r s)
both_tied Less s = refl
both_tied Equal s = refl
both_tied Greater s = refl

pub by_ends-ties : (x y : Arc) → (int_eq x.0 y.0 && int_eq x.1 y.1) ≡ eq_by_cmp by_ends x y
by_ends-ties x y = both_tied (int_cmp x.0 y.0) (int_cmp x.1 y.1)

pub same_arc : (a b c d : ℤ) → a ≡ c → b ≡ d → ◌≡◌ {A = Arc} (a, b) (c, d)
same_arc a b c d e f i = (e i, f i)
