-- Two lists of entries in order, walked side by side: what a look-up finds there, and that the keys rise.
use Rattle.std.proofs.Common.{◌≡◌, cond, List, [], ◌∷◌, map, Option, Some, None, Ordering, refl, ap, sym, subst, ◌∙◌}
use Rattle.std.specs.declared.cmp.Ordering.TheVariants.{Less, Equal, Greater}
use Rattle.std.specs.Prelude.{T}
use Rattle.std.specs.Ordering.{is_eq, is_lt, eq_by_cmp, ordering_reverse}
use Rattle.std.specs.Cmp.{IsTotalOrder, alike_right}
use Rattle.std.specs.FinMap.{find, is_sorted}
use Rattle.std.specs.FinMap.Entries.{below_all}
use Rattle.itertools.specs.List.{by_ordering, merge_join_at, merge_join_by}
use Rattle.itertools.specs.declared.either_or_both.EitherOrBoth.{EitherOrBoth}
use Rattle.itertools.specs.declared.either_or_both.EitherOrBoth.TheVariants.{Both, Left, Right}
use Rattle.cov_data.proofs.MapViews.{first, second, less, both}
use Rattle.cov_data.proofs.Merging.{find-below}

-- what either has, and op of the two where both have one
abbrev pub of_both : {X : Type 0} → (X → X → X) → Option X → Option X → Option X
of_both op None y = y
of_both op (Some x) None = Some x
of_both op (Some x) (Some y) = Some (op x y)

of_both-none : {X : Type 0} (op : X → X → X) (x : Option X) → of_both op x None ≡ x
of_both-none op None = refl
of_both-none op (Some x) = refl

module _ {A K X : Type 0} (seen : A → K × X) where
  -- the entry of one side, or of both
  abbrev pub entry_of : (X → X → X) → EitherOrBoth A A → K × X
  entry_of op (Left a) = seen a
  entry_of op (Right b) = seen b
  entry_of op (Both a b) = ((seen a).0, op (seen a).1 (seen b).1)

  -- two entries by their keys
  abbrev pub key_cmp : (K → K → Ordering) → A → A → Ordering
  key_cmp R a b = R (seen a).0 (seen b).0

module _ {A K X : Type 0} (R : K → K → Ordering) (seen : A → K × X) (op : X → X → X) where
  abbrev one : EitherOrBoth A A → K × X
  one = entry_of seen op

  abbrev side_cmp : A → A → Ordering
  side_cmp = key_cmp seen R

  abbrev lone_left : A → EitherOrBoth A A
  lone_left a = Left a

  abbrev lone_right : A → EitherOrBoth A A
  lone_right b = Right b

  lefts : (ls : List A) → map one (map lone_left ls) ≡ map seen ls
  lefts [] = refl
  lefts (a ∷ ls) = ap (λ es. seen a ∷ es) (lefts ls)

  rights : (rs : List A) → map one (map lone_right rs) ≡ map seen rs
  rights [] = refl
  rights (b ∷ rs) = ap (λ es. seen b ∷ es) (rights rs)

  module _ (o : IsTotalOrder R) where
    lower : (x y : K) (es : List (K × X)) → R x y ≡ Less → T (below_all R y es) → T (below_all R x es)
    lower x y [] p h = tt
    lower x y (e ∷ es) p h = both _ _ (subst (λ r. T (is_lt r)) (sym (o.trans x y e.0 p (less _ (first _ _ h)))) tt) (lower x y es p (second _ _ h))

    level : (x y : K) (es : List (K × X)) → R x y ≡ Equal → T (below_all R y es) → T (below_all R x es)
    level x y [] p h = tt
    level x y (e ∷ es) p h = both _ _ (subst (λ r. T (is_lt r)) (sym (o.congr x y e.0 p)) (first _ _ h)) (level x y es p (second _ _ h))

    -- a key that is below each of a list
    lower_all : (x y : K) (v : X) (es : List (K × X)) → R x y ≡ Less → T (below_all R y es) → T (below_all R x ((y, v) ∷ es))
    lower_all x y v es p h = both _ _ (subst (λ r. T (is_lt r)) (sym p) tt) (lower x y es p h)

    turned : (x y : K) → R x y ≡ Greater → R y x ≡ Less
    turned x y p = o.antisymm y x ∙ ap ordering_reverse p

    -- ---- what a look-up finds

    -- the first side's entry comes first
    found_first : (q x : K) (v : X) (a b : Option X) → (R q x ≡ Equal → b ≡ None) → cond (eq_by_cmp R q x) (Some v) (of_both op a b) ≡ of_both op (cond (eq_by_cmp R q x) (Some v) a) b
    found_first q x v a b none = elim (R q x) as (λ r. R q x ≡ r → cond (is_eq r) (Some v) (of_both op a b) ≡ of_both op (cond (is_eq r) (Some v) a) b) [
      | Less ↦ λ t. refl
      | Equal ↦ λ t. ap (of_both op (Some v)) (sym (none t))
      | Greater ↦ λ t. refl
    ] refl

    found_second : (q x : K) (v : X) (a b : Option X) → (R q x ≡ Equal → a ≡ None) → cond (eq_by_cmp R q x) (Some v) (of_both op a b) ≡ of_both op a (cond (eq_by_cmp R q x) (Some v) b)
    found_second q x v a b none = elim (R q x) as (λ r. R q x ≡ r → cond (is_eq r) (Some v) (of_both op a b) ≡ of_both op a (cond (is_eq r) (Some v) b)) [
      | Less ↦ λ t. refl
      | Equal ↦ λ t. ap (λ y. of_both op y (Some v)) (sym (none t))
      | Greater ↦ λ t. refl
    ] refl

    found_both : (q x y : K) (v w : X) (a b : Option X) → R x y ≡ Equal
        → cond (eq_by_cmp R q x) (Some (op v w)) (of_both op a b) ≡ of_both op (cond (eq_by_cmp R q x) (Some v) a) (cond (eq_by_cmp R q y) (Some w) b)
    found_both q x y v w a b t = elim (R q x) as (λ r. cond (is_eq r) (Some (op v w)) (of_both op a b) ≡ of_both op (cond (is_eq r) (Some v) a) (cond (is_eq r) (Some w) b)) [ Less ↦ refl | Equal ↦ refl | Greater ↦ refl ]
        ∙ ap (λ r. of_both op (cond (eq_by_cmp R q x) (Some v) a) (cond (is_eq r) (Some w) b)) (alike_right o x y q t)

    -- what is found of rs, joined to what is found of ls
    abbrev Finds : K → List A → (List A → List (EitherOrBoth A A)) → Type 0
    Finds q ls after = (rs : List A) → T (is_sorted R (map seen rs)) → find R q (map one (after rs)) ≡ of_both op (find R q (map seen ls)) (find R q (map seen rs))

    find-at : (q : K) (a : A) (ls : List A) (after : List A → List (EitherOrBoth A A)) → T (below_all R (seen a).0 (map seen ls)) → Finds q ls after → Finds q (a ∷ ls) (merge_join_at side_cmp a ls after)
    find-at q a ls after low rest [] h = ap (λ es. find R q (seen a ∷ es)) (lefts ls) ∙ sym (of_both-none op (find R q (seen a ∷ map seen ls)))
    find-at q a ls after low rest (b ∷ rs) h =
        let x = (seen a).0 in
        let y = (seen b).0 in
        let v = (seen a).1 in
        let w = (seen b).1 in
        let fa = find R q (map seen ls) in
        let fb = find R q (map seen rs) in
        elim (R x y) as (λ r. R x y ≡ r → find R q (map one (by_ordering r (Left a ∷ after (b ∷ rs)) (Both a b ∷ after rs) (Right b ∷ merge_join_at side_cmp a ls after rs)))
        ≡ of_both op (cond (eq_by_cmp R q x) (Some v) fa) (cond (eq_by_cmp R q y) (Some w) fb)) [
          | Less ↦ λ p. ap (cond (eq_by_cmp R q x) (Some v)) (rest (b ∷ rs) h)
              ∙ found_first q x v fa (cond (eq_by_cmp R q y) (Some w) fb) (λ t. find-below o q x (seen b ∷ map seen rs) t (lower_all x y w (map seen rs) p (first _ _ h)))
          | Equal ↦ λ p. ap (cond (eq_by_cmp R q x) (Some (op v w))) (rest rs (second _ _ h)) ∙ found_both q x y v w fa fb p
          | Greater ↦ λ p. ap (cond (eq_by_cmp R q y) (Some w)) (find-at q a ls after low rest rs (second _ _ h))
              ∙ found_second q y w (cond (eq_by_cmp R q x) (Some v) fa) fb (λ t. find-below o q y (seen a ∷ map seen ls) t (lower_all y x v (map seen ls) (turned x y p) low))
        ] refl

    pub find-side_by_side : (q : K) (ls : List A) → T (is_sorted R (map seen ls)) → Finds q ls (merge_join_by side_cmp ls)
    find-side_by_side q [] g rs h = ap (find R q) (rights rs)
    find-side_by_side q (a ∷ ls) g rs h = find-at q a ls (merge_join_by side_cmp ls) (first _ _ g) (find-side_by_side q ls (second _ _ g)) rs h

    -- ---- the keys rise

    abbrev Low : K → List A → (List A → List (EitherOrBoth A A)) → Type 0
    Low x ls after = (rs : List A) → T (below_all R x (map seen rs)) → T (below_all R x (map one (after rs)))

    low-at : (x : K) (a : A) (ls : List A) (after : List A → List (EitherOrBoth A A)) → T (below_all R x (map seen (a ∷ ls))) → Low x ls after → Low x (a ∷ ls) (merge_join_at side_cmp a ls after)
    low-at x a ls after low rest [] h = subst (λ es. T (below_all R x (seen a ∷ es))) (sym (lefts ls)) low
    low-at x a ls after low rest (b ∷ rs) h =
        elim (side_cmp a b) as (λ r. T (below_all R x (map one (by_ordering r (Left a ∷ after (b ∷ rs)) (Both a b ∷ after rs) (Right b ∷ merge_join_at side_cmp a ls after rs))))) [
          | Less ↦ both _ _ (first _ _ low) (rest (b ∷ rs) h)
          | Equal ↦ both _ _ (first _ _ low) (rest rs (second _ _ h))
          | Greater ↦ both _ _ (first _ _ h) (low-at x a ls after low rest rs (second _ _ h))
        ]

    low : (x : K) (ls : List A) → T (below_all R x (map seen ls)) → Low x ls (merge_join_by side_cmp ls)
    low x [] g rs h = subst (λ es. T (below_all R x es)) (sym (rights rs)) h
    low x (a ∷ ls) g rs h = low-at x a ls (merge_join_by side_cmp ls) g (low x ls (second _ _ g)) rs h

    abbrev Rising : (List A → List (EitherOrBoth A A)) → Type 0
    Rising after = (rs : List A) → T (is_sorted R (map seen rs)) → T (is_sorted R (map one (after rs)))

    rising-at : (a : A) (ls : List A) → T (is_sorted R (map seen (a ∷ ls))) → Rising (merge_join_by side_cmp ls) → Rising (merge_join_by side_cmp (a ∷ ls))
    rising-at a ls g rest [] h = subst (λ es. T (is_sorted R (seen a ∷ es))) (sym (lefts ls)) g
    rising-at a ls g rest (b ∷ rs) h =
        let x = (seen a).0 in
        let y = (seen b).0 in
        elim (R x y) as (λ r. R x y ≡ r → T (is_sorted R (map one (by_ordering r (Left a ∷ merge_join_by side_cmp ls (b ∷ rs)) (Both a b ∷ merge_join_by side_cmp ls rs) (Right b ∷ merge_join_by side_cmp (a ∷ ls) rs))))) [
          | Less ↦ λ p. both _ _ (low x ls (first _ _ g) (b ∷ rs) (lower_all x y (seen b).1 (map seen rs) p (first _ _ h))) (rest (b ∷ rs) h)
          | Equal ↦ λ p. both _ _ (low x ls (first _ _ g) rs (level x y (map seen rs) p (first _ _ h))) (rest rs (second _ _ h))
          | Greater ↦ λ p. both _ _ (low y (a ∷ ls) (lower_all y x (seen a).1 (map seen ls) (turned x y p) (first _ _ g)) rs (first _ _ h)) (rising-at a ls g rest rs (second _ _ h))
        ] refl

    pub is_sorted-side_by_side : (ls : List A) → T (is_sorted R (map seen ls)) → Rising (merge_join_by side_cmp ls)
    is_sorted-side_by_side [] g rs h = subst (λ es. T (is_sorted R es)) (sym (rights rs)) h
    is_sorted-side_by_side (a ∷ ls) g rs h = rising-at a ls g (is_sorted-side_by_side ls (second _ _ g)) rs h
