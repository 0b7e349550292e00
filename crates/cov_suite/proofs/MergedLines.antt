-- Lists of lines in order, and two of them that are merged.
--     line_cmp_total, line_cmp_same     the order of lines
--     member-merged                     merged are the lines of both
--     merged-Rises                      in order, where both are
--     same-lines                        lists in order with the same lines are the same
--     merged-end                        what is left once one list is at its end
use Rattle.std.proofs.Common.{◌≡◌, ◌⊎◌, inl, inr, Bool, true, false, List, [], ◌∷◌, ◌++◌, refl, ap, sym, subst, ◌∙◌}
use Rattle.std.specs.declared.cmp.Ordering.TheVariants.{Less, Equal, Greater}
use Rattle.std.specs.Prelude.{T, ◌||◌}
use Rattle.std.specs.Ordering.{is_lt, eq_by_cmp, nat_cmp, ordering_reverse, match_ordering}
use Rattle.std.specs.Cmp.{IsTotalOrder, then_total, on_total}
use Rattle.std.specs.FinMap.{IsAntisymmetric, nat_cmp-IsAntisymmetric}
use Rattle.std.specs.FinMap.Entries.{below_all}
use Rattle.std.proofs.lemmas.Cmp.{nat_cmp_total}
use Rattle.std.proofs.lemmas.List.{append-nil}
use Rattle.std.proofs.lemmas.Map.Lookups.{exact_pairs}
use Rattle.cov_data.specs.DataSet.{text_cmp}
use Rattle.cov_data.proofs.Distinct.{marked, Rises, distinct_in_order-unique}
use Rattle.cov_data.proofs.FileViews.{text_cmp_total, text_cmp_same}
use Rattle.cov_data.proofs.MapViews.{first, second, less, both}
use Rattle.cov_data.proofs.Members.{member}
use Rattle.cov_suite.specs.Merging.{line_cmp, merged_at, merged}
use Rattle.cov_suite.specs.Rows.{Line}

-- ---- the order of lines

-- each line is before, the same as, or after another
pub line_cmp_total : IsTotalOrder line_cmp
line_cmp_total = then_total (on_total (λ l. l.0) text_cmp_total) (on_total (λ l. l.1) nat_cmp_total)

-- and only a line itself is the same
pub line_cmp_same : IsAntisymmetric line_cmp
line_cmp_same = exact_pairs text_cmp nat_cmp text_cmp_same nat_cmp-IsAntisymmetric

-- a line is before each of these
abbrev pub IsBelow : Line → List Line → Type 0
IsBelow x xs = T (below_all line_cmp x (marked xs))

-- lists in order with the same lines are the same
pub same-lines : (xs ys : List Line) → Rises line_cmp xs → Rises line_cmp ys → ((q : Line) → member line_cmp q xs ≡ member line_cmp q ys) → xs ≡ ys
same-lines xs ys g h alike =
    distinct_in_order-unique line_cmp line_cmp_total line_cmp_same xs ys g alike
    ∙ sym (distinct_in_order-unique line_cmp line_cmp_total line_cmp_same ys ys h (λ q. refl))

-- ---- the lines of what is merged

or_none : (a : Bool) → (a || false) ≡ a
or_none true = refl
or_none false = refl

or_swap : (a b c : Bool) → (a || (b || c)) ≡ (b || (a || c))
or_swap true true c = refl
or_swap true false c = refl
or_swap false b c = refl

or_moved : (a b c : Bool) → (a || (b || c)) ≡ ((a || b) || c)
or_moved true b c = refl
or_moved false b c = refl

or_shared : (a b c : Bool) → (a || (b || c)) ≡ ((a || b) || (a || c))
or_shared true b c = refl
or_shared false b c = refl

-- a list that others are merged into by `after`, which has the lines of both
abbrev HasBoth : Line → List Line → (List Line → List Line) → Type 0
HasBoth q xs after =
    (ys : List Line) → member line_cmp q (after ys) ≡ (member line_cmp q xs || member line_cmp q ys)

member-at : (q a : Line) (xs : List Line) (after : List Line → List Line) → HasBoth q xs after → HasBoth q (a ∷ xs) (merged_at a xs after)
member-at q a xs after rest [] = sym (or_none (member line_cmp q (a ∷ xs)))
member-at q a xs after rest (b ∷ ys) =
    let x = eq_by_cmp line_cmp q a in
    let y = eq_by_cmp line_cmp q b in
    let u = member line_cmp q xs in
    let v = member line_cmp q ys in
    elim (line_cmp a b) as (λ r. line_cmp a b ≡ r → member line_cmp q (match_ordering r (a ∷ after (b ∷ ys)) (a ∷ after ys) (b ∷ merged_at a xs after ys)) ≡ ((x || u) || (y || v))) [
      | Less ↦ λ t. ap (λ w. x || w) (rest (b ∷ ys)) ∙ or_moved x u (y || v)
      | Equal ↦ λ t. ap (λ w. x || w) (rest ys) ∙ or_shared x u v ∙ ap (λ z. (x || u) || (eq_by_cmp line_cmp q z || v)) (line_cmp_same a b t)
      | Greater ↦ λ t. ap (λ w. y || w) (member-at q a xs after rest ys) ∙ or_swap y (x || u) v
    ] refl

-- merged are the lines of both
pub member-merged : (q : Line) (xs ys : List Line) → member line_cmp q (merged xs ys) ≡ (member line_cmp q xs || member line_cmp q ys)
member-merged q [] ys = refl
member-merged q (a ∷ xs) ys = member-at q a xs (merged xs) (member-merged q xs) ys

-- ---- what is merged is in order

lower : (x y : Line) (xs : List Line) → line_cmp x y ≡ Less → IsBelow y xs → IsBelow x xs
lower x y [] p h = tt
lower x y (l ∷ xs) p h = both _ _ (subst (λ r. T (is_lt r)) (sym (line_cmp_total.trans x y l p (less _ (first _ _ h)))) tt) (lower x y xs p (second _ _ h))

lower_all : (x y : Line) (xs : List Line) → line_cmp x y ≡ Less → IsBelow y xs → IsBelow x (y ∷ xs)
lower_all x y xs p h = both _ _ (subst (λ r. T (is_lt r)) (sym p) tt) (lower x y xs p h)

below-at : (x a : Line) (xs : List Line) (after : List Line → List Line) → IsBelow x (a ∷ xs) → ((ys : List Line) → IsBelow x ys → IsBelow x (after ys)) → (ys : List Line) → IsBelow x ys → IsBelow x (merged_at a xs after ys)
below-at x a xs after low rest [] h = low
below-at x a xs after low rest (b ∷ ys) h =
    elim (line_cmp a b) as (λ r. IsBelow x (match_ordering r (a ∷ after (b ∷ ys)) (a ∷ after ys) (b ∷ merged_at a xs after ys))) [
      | Less ↦ both _ _ (first _ _ low) (rest (b ∷ ys) h)
      | Equal ↦ both _ _ (first _ _ low) (rest ys (second _ _ h))
      | Greater ↦ both _ _ (first _ _ h) (below-at x a xs after low rest ys (second _ _ h))
    ]

below-merged : (x : Line) (xs : List Line) → IsBelow x xs → (ys : List Line) → IsBelow x ys → IsBelow x (merged xs ys)
below-merged x [] g ys h = h
below-merged x (a ∷ xs) g ys h = below-at x a xs (merged xs) g (below-merged x xs (second _ _ g)) ys h

rises-at : (a : Line) (xs : List Line) → Rises line_cmp (a ∷ xs) → ((ys : List Line) → Rises line_cmp ys → Rises line_cmp (merged xs ys)) → (ys : List Line) → Rises line_cmp ys → Rises line_cmp (merged (a ∷ xs) ys)
rises-at a xs g rest [] h = g
rises-at a xs g rest (b ∷ ys) h =
    elim (line_cmp a b) as (λ r. line_cmp a b ≡ r → Rises line_cmp (match_ordering r (a ∷ merged xs (b ∷ ys)) (a ∷ merged xs ys) (b ∷ merged (a ∷ xs) ys))) [
      | Less ↦ λ p. both _ _ (below-merged a xs (first _ _ g) (b ∷ ys) (lower_all a b ys p (first _ _ h))) (rest (b ∷ ys) h)
      | Equal ↦ λ p. both _ _ (below-merged a xs (first _ _ g) ys (subst (λ z. IsBelow z ys) (sym (line_cmp_same a b p)) (first _ _ h))) (rest ys (second _ _ h))
      | Greater ↦ λ p. both _ _ (below-merged b (a ∷ xs) (lower_all b a xs (line_cmp_total.antisymm b a ∙ ap ordering_reverse p) (first _ _ g)) ys (first _ _ h)) (rises-at a xs g rest ys (second _ _ h))
    ] refl

-- merged lists in order are in order
pub merged-Rises : (xs ys : List Line) → Rises line_cmp xs → Rises line_cmp ys → Rises line_cmp (merged xs ys)
merged-Rises [] ys g h = h
merged-Rises (a ∷ xs) ys g h = rises-at a xs g (λ ys. merged-Rises xs ys (second _ _ g)) ys h

-- ---- one list is at its end

merged-none : (xs : List Line) → merged xs [] ≡ xs
merged-none [] = refl
merged-none (x ∷ xs) = refl

-- what was merged before, and then both rests
pub merged-end : (xs ys old mid new all : List Line) → mid ≡ old ++ xs → new ≡ mid ++ ys → (xs ≡ []) ⊎ (ys ≡ []) → old ++ merged xs ys ≡ all → new ≡ all
merged-end xs ys old mid new all first second (inl e) h =
    second ∙ ap (λ ls. ls ++ ys) (first ∙ ap (λ ls. old ++ ls) e ∙ append-nil old) ∙ ap (λ ls. old ++ merged ls ys) (sym e) ∙ h
merged-end xs ys old mid new all first second (inr e) h =
    second ∙ ap (λ ls. mid ++ ls) e ∙ append-nil mid ∙ first ∙ ap (λ ls. old ++ ls) (sym (merged-none xs)) ∙ ap (λ ls. old ++ merged xs ls) (sym e) ∙ h
