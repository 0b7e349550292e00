-- Lists that rise: lines in order, and what insertions one after the other leave.
use Rattle.std.proofs.Common.{◌≡◌, ℕ, Bool, List, [], ◌∷◌, Ordering, refl, sym, ap, subst, ◌∙◌}
use Rattle.std.specs.declared.cmp.Ordering.TheVariants.{Less, Equal, Greater}
use Rattle.std.specs.FinMap.{entries}
use Rattle.std.specs.List.{fold, filter, flat_map, AllByRecursion}
use Rattle.std.specs.List.Sorted.{IsStrictlySortedBy}
use Rattle.std.specs.Ordering.{nat_cmp, match_ordering, ordering_reverse}
use Rattle.std.specs.Cmp.{IsTotalOrder}
use Rattle.std.specs.BTreeSet.{insert_key}
use Rattle.std.proofs.lemmas.Cmp.{nat_cmp_total}
use Rattle.std.proofs.lemmas.List.Kept.{IsStrictlySortedBy-filter}
use Rattle.py_syntax.specs.Marks.{in_order}
use Rattle.py_syntax.specs.Prediction.{Arc, by_ends, arcs_in_order}
use Rattle.cov_data.specs.DataSet.{DataSet, file_of}
use Rattle.cov_data.specs.Rows.{place_lines, lines_of}
use Rattle.cov_predict.proofs.Sets.{ordered, in_order-is, arcs_in_order-is, by_ends-total}
use Rattle.py_syntax.specs.Tree.{Stmts}
use Rattle.cov_exclude.specs.Excluded.{body_excluded}
use Rattle.cov_exclude.specs.NoBranch.{body_touched}
use Rattle.cov_exclude.specs.Sources.{excluded_in, no_branch_in}
use Rattle.cov_exclude.specs.Texts.{matched_lines}
use Rattle.cov_exclude.specs.Touched.{touches, IsRising}

module _ {K : Type 0} (R : K → K → Ordering) (o : IsTotalOrder R) where
  below-insert : (x k : K) (ks : List K) → R x k ≡ Less → AllByRecursion (λ y. R x y ≡ Less) ks → AllByRecursion (λ y. R x y ≡ Less) (insert_key R ks k)
  below-insert x k [] less h = (less, h)
  below-insert x k (y ∷ ys) less h =
      elim (R k y) as (λ r. AllByRecursion (λ z. R x z ≡ Less) (match_ordering r (k ∷ y ∷ ys) (y ∷ ys) (y ∷ insert_key R ys k))) [
        | Less ↦ (less, h)
        | Equal ↦ h
        | Greater ↦ (h.0, below-insert x k ys less h.1)
      ]

  below-below : (k y : K) (ys : List K) → R k y ≡ Less → AllByRecursion (λ z. R y z ≡ Less) ys → AllByRecursion (λ z. R k z ≡ Less) ys
  below-below k y [] less h = h
  below-below k y (z ∷ zs) less h = (o.trans k y z less h.0, below-below k y zs less h.1)

  pub insert-rises : (k : K) (ks : List K) → IsStrictlySortedBy R ks → IsStrictlySortedBy R (insert_key R ks k)
  unfolding IsStrictlySortedBy
  insert-rises k [] h = (h, h)
  insert-rises k (y ∷ ys) h =
      elim (R k y) as (λ r. R k y ≡ r → IsStrictlySortedBy R (match_ordering r (k ∷ y ∷ ys) (y ∷ ys) (y ∷ insert_key R ys k))) [
        | Less ↦ λ e. ((e, below-below k y ys e h.0), h)
        | Equal ↦ λ e. h
        | Greater ↦ λ e. (below-insert y k ys (o.antisymm y k ∙ ap ordering_reverse e) h.0, insert-rises k ys h.1)
      ] refl

  pub all-rise : (acc ks : List K) → IsStrictlySortedBy R acc → IsStrictlySortedBy R (fold (insert_key R) acc ks)
  all-rise acc [] h = h
  all-rise acc (k ∷ ks) h = all-rise (insert_key R acc k) ks (insert-rises k acc h)

  pub none-rises : IsStrictlySortedBy R []
  unfolding IsStrictlySortedBy
  none-rises = tt

  pub ordered-rises : (ks : List K) → IsStrictlySortedBy R (ordered R ks)
  ordered-rises [] = none-rises
  ordered-rises (k ∷ ks) = insert-rises k (ordered R ks) (ordered-rises ks)

pub in_order-rises : (ks : List ℕ) → IsRising (in_order ks)
in_order-rises ks = record { rises = subst (IsStrictlySortedBy nat_cmp) (sym (in_order-is ks)) (ordered-rises nat_cmp nat_cmp_total ks) }

pub arcs_in_order-rises : (arcs : List Arc) → IsStrictlySortedBy by_ends (arcs_in_order arcs)
arcs_in_order-rises arcs = subst (IsStrictlySortedBy by_ends) (sym (arcs_in_order-is arcs)) (ordered-rises by_ends by_ends-total arcs)

pub lines_of-rises : (d : DataSet) (path : List ℕ) → IsRising (lines_of d path)
lines_of-rises d path = record { rises = all-rise nat_cmp nat_cmp_total [] (flat_map (λ e. place_lines e.0) (entries (file_of d path))) (none-rises nat_cmp nat_cmp_total) }

pub excluded_in-rises : (texts : List (List ℕ)) (m : Stmts) (text : List ℕ) → IsRising (excluded_in texts m text)
excluded_in-rises texts m text = in_order-rises (body_excluded (touches (matched_lines texts text)) m)

pub no_branch_in-rises : (texts : List (List ℕ)) (m : Stmts) (text : List ℕ) → IsRising (no_branch_in texts m text)
no_branch_in-rises texts m text = in_order-rises (body_touched (touches (matched_lines texts text)) m)

pub filter-rises : (p : ℕ → Bool) (lines : List ℕ) → IsRising lines → IsRising (filter p lines)
filter-rises p lines h = record { rises = IsStrictlySortedBy-filter nat_cmp p lines h.rises }
