-- Membership in lists in some order, as a test.
use Rattle.std.proofs.Common.{◌≡◌, Bool, true, false, List, [], ◌∷◌, Ordering, Contains, refl, ap, sym, ◌∙◌}
use Rattle.std.specs.declared.cmp.Ordering.TheVariants.{Less, Equal, Greater}
use Rattle.std.specs.Prelude.{◌||◌}
use Rattle.std.specs.Ordering.{is_eq, eq_by_cmp, match_ordering}
use Rattle.std.specs.Cmp.{IsTotalOrder, eq_by_cmp_equiv}
use Rattle.std.specs.List.{fold, list_any}
use Rattle.std.specs.BTreeSet.{insert_key}
use Rattle.std.specs.FinMap.{IsAntisymmetric}
use Rattle.std.proofs.lemmas.Cmp.{tied_itself}
use Rattle.std.proofs.lemmas.Map.Views.{Contains-from_any, list_any-from_Contains}
use Rattle.cov_data.specs.Rows.{distinct_in_order}
use Rattle.cov_data.proofs.Distinct.{distinct_in_order-Rises, distinct_in_order-unique}

is_equal : (r : Ordering) → is_eq r ≡ true → r ≡ Equal
is_equal Less h = cc
is_equal Equal h = refl
is_equal Greater h = cc

pub or_true : (b : Bool) → (b || true) ≡ true
or_true true = refl
or_true false = refl

or_false : (b : Bool) → (b || false) ≡ b
or_false true = refl
or_false false = refl

or_swap : (a b c : Bool) → (a || (b || c)) ≡ (b || (a || c))
or_swap true true c = refl
or_swap true false c = refl
or_swap false b c = refl

or_twice : (a c : Bool) → (a || c) ≡ (a || (a || c))
or_twice true c = refl
or_twice false c = refl

or_moved : (a b c : Bool) → (a || (b || c)) ≡ ((b || a) || c)
or_moved true true c = refl
or_moved true false c = refl
or_moved false true c = refl
or_moved false false c = refl

pub bool_same : (b c : Bool) → (b ≡ true → c ≡ true) → (c ≡ true → b ≡ true) → b ≡ c
bool_same true c f g = sym (f refl)
bool_same false true f g = g refl
bool_same false false f g = refl

module _ {K : Type 0} (R : K → K → Ordering) where
  -- whether an element is among these
  abbrev pub member : K → List K → Bool
  member q ks = list_any (eq_by_cmp R q) ks

  module _ (o : IsTotalOrder R) (same : IsAntisymmetric R) where
    pub member-Contains : (q : K) (ks : List K) → member q ks ≡ true → Contains ks q
    member-Contains q ks h = Contains-from_any {eq = eq_by_cmp R} (λ x y e. same x y (is_equal (R x y) e)) q ks h

    pub Contains-member : (q : K) (ks : List K) → Contains ks q → member q ks ≡ true
    Contains-member q ks h = list_any-from_Contains (eq_by_cmp_equiv o) q ks h

    pub member-itself : (q : K) (ks : List K) → member q (q ∷ ks) ≡ true
    member-itself q ks = ap (λ r. is_eq r || member q ks) (tied_itself o q)

    pub member-one : (q k : K) → member q (k ∷ []) ≡ true → q ≡ k
    member-one q k h = same q k (is_equal (R q k) (sym (or_false (is_eq (R q k))) ∙ h))

    member-insert : (q k : K) (ks : List K) → member q (insert_key R ks k) ≡ (eq_by_cmp R q k || member q ks)
    member-insert q k [] = refl
    member-insert q k (x ∷ ks) =
        elim (R k x) as (λ r. R k x ≡ r → member q (match_ordering r (k ∷ x ∷ ks) (x ∷ ks) (x ∷ insert_key R ks k)) ≡ (eq_by_cmp R q k || member q (x ∷ ks))) [
          | Less ↦ λ t. refl
          | Equal ↦ λ t. or_twice (eq_by_cmp R q x) (member q ks) ∙ ap (λ y. eq_by_cmp R q y || member q (x ∷ ks)) (sym (same k x t))
          | Greater ↦ λ t. ap (λ b. eq_by_cmp R q x || b) (member-insert q k ks) ∙ or_swap (eq_by_cmp R q x) (eq_by_cmp R q k) (member q ks)
        ] refl

    member-folded : (q : K) (ks found : List K) → member q (fold (insert_key R) found ks) ≡ (member q ks || member q found)
    member-folded q [] found = refl
    member-folded q (x ∷ ks) found =
        member-folded q ks (insert_key R found x)
        ∙ ap (λ b. member q ks || b) (member-insert q x found)
        ∙ or_moved (member q ks) (eq_by_cmp R q x) (member q found)

    -- a list in order has the elements of the list
    pub member-in_order : (q : K) (ks : List K) → member q (distinct_in_order R ks) ≡ member q ks
    member-in_order q ks = member-folded q ks [] ∙ or_false (member q ks)

    -- lists with the same elements are the same in order
    pub same-in_order : (xs ys : List K) → ((q : K) → (member q xs ≡ true → member q ys ≡ true) × (member q ys ≡ true → member q xs ≡ true)) → distinct_in_order R xs ≡ distinct_in_order R ys
    same-in_order xs ys alike =
        distinct_in_order-unique R o same (distinct_in_order R xs) ys (distinct_in_order-Rises R o xs)
        (λ q. member-in_order q xs ∙ bool_same (member q xs) (member q ys) (alike q).0 (alike q).1)
