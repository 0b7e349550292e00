-- A list's elements in order, without repeats: it is the one list that rises and has these elements.
use Rattle.std.proofs.Common.{◌≡◌, Bool, true, false, cond, List, [], ◌∷◌, map, Option, Some, None, Ordering, refl, ap, sym, subst, ◌∙◌}
use Rattle.std.specs.declared.cmp.Ordering.TheVariants.{Less, Equal, Greater}
use Rattle.std.specs.Prelude.{T, ◌||◌}
use Rattle.std.specs.Ordering.{eq_by_cmp, match_ordering}
use Rattle.std.specs.Cmp.{IsTotalOrder}
use Rattle.std.specs.List.{fold, list_any}
use Rattle.std.specs.BTreeSet.{insert_key}
use Rattle.std.specs.FinMap.{IsAntisymmetric, find, put, is_sorted}
use Rattle.std.specs.FinMap.Entries.{by_order, is_sorted-put, find-put, same_entries}
use Rattle.cov_data.specs.Rows.{distinct_in_order}

-- a list as the entries of a set
abbrev pub marked : {K : Type 0} → List K → List (K × Unit {0})
marked ks = map (λ k. (k, tt)) ks

-- the elements rise
abbrev pub Rises : {K : Type 0} → (K → K → Ordering) → List K → Type 0
Rises R ks = T (is_sorted R (marked ks))

unmarked : {K : Type 0} (ks : List K) → map (λ e. e.0) (marked ks) ≡ ks
unmarked [] = refl
unmarked (k ∷ ks) = ap (λ xs. k ∷ xs) (unmarked ks)

present : Bool → Option (Unit {0}) → Option (Unit {0})
present b o = cond b (Some tt) o

present-or : (a b : Bool) (o : Option (Unit {0})) → present a (present b o) ≡ present (a || b) o
unfolding present
present-or true b o = refl
present-or false b o = refl

or-comm : (a b : Bool) → (a || b) ≡ (b || a)
or-comm true true = refl
or-comm true false = refl
or-comm false true = refl
or-comm false false = refl

module _ {K : Type 0} (R : K → K → Ordering) where
  marked-insert_key : (k : K) (ks : List K) → marked (insert_key R ks k) ≡ put R k tt (marked ks)
  marked-insert_key k [] = refl
  marked-insert_key k (x ∷ xs) =
      elim (R k x) as (λ r. marked (match_ordering r (k ∷ x ∷ xs) (x ∷ xs) (x ∷ insert_key R xs k)) ≡ by_order r ((k, tt) ∷ marked (x ∷ xs)) ((x, tt) ∷ marked xs) ((x, tt) ∷ put R k tt (marked xs))) [
        | Less ↦ refl
        | Equal ↦ refl
        | Greater ↦ ap (λ es. (x, tt) ∷ es) (marked-insert_key k xs)
      ]

  find-marked : (q : K) (ks : List K) → find R q (marked ks) ≡ present (list_any (eq_by_cmp R q) ks) None
  unfolding present
  find-marked q [] = refl
  find-marked q (k ∷ ks) = ap (cond (eq_by_cmp R q k) (Some tt)) (find-marked q ks) ∙ present-or (eq_by_cmp R q k) (list_any (eq_by_cmp R q) ks) None

  module _ (o : IsTotalOrder R) where
    rises_from : (ks acc : List K) → Rises R acc → Rises R (fold (insert_key R) acc ks)
    rises_from [] acc h = h
    rises_from (k ∷ ks) acc h = rises_from ks (insert_key R acc k) (subst (λ es. T (is_sorted R es)) (sym (marked-insert_key k acc)) (is_sorted-put R o k tt (marked acc) h))

    pub distinct_in_order-Rises : (ks : List K) → Rises R (distinct_in_order R ks)
    distinct_in_order-Rises ks = rises_from ks [] tt

    find_from : (q : K) (ks acc : List K) → find R q (marked (fold (insert_key R) acc ks)) ≡ present (list_any (eq_by_cmp R q) ks) (find R q (marked acc))
    unfolding present
    find_from q [] acc = refl
    find_from q (k ∷ ks) acc =
        find_from q ks (insert_key R acc k)
        ∙ ap (present (list_any (eq_by_cmp R q) ks)) (ap (find R q) (marked-insert_key k acc) ∙ find-put R o q k tt (marked acc))
        ∙ present-or (list_any (eq_by_cmp R q) ks) (eq_by_cmp R q k) (find R q (marked acc))
        ∙ ap (λ b. present b (find R q (marked acc))) (or-comm (list_any (eq_by_cmp R q) ks) (eq_by_cmp R q k))

    -- a rising list with the elements of ks
    pub distinct_in_order-unique : IsAntisymmetric R → (xs ks : List K) → Rises R xs → ((q : K) → list_any (eq_by_cmp R q) xs ≡ list_any (eq_by_cmp R q) ks) → xs ≡ distinct_in_order R ks
    distinct_in_order-unique same xs ks h alike =
        sym (unmarked xs)
        ∙ ap (λ es. map (λ e. e.0) es) (same_entries R o same (marked xs) (marked (distinct_in_order R ks)) h (distinct_in_order-Rises ks)
        (λ q. find-marked q xs ∙ ap (λ b. present b None) (alike q) ∙ sym (find_from q ks [])))
        ∙ unmarked (distinct_in_order R ks)
