-- Counting one row after the other.
use Rattle.std.proofs.Common.{◌≡◌, ℕ, ℤ, List, [], ◌∷◌, ◌++◌, Option, Some, None, Bool, true, false, cond, refl, ap, sym, ◌∙◌, suc, ◌+◌, ◌<◌, length, get_or, drop, drop-cons, arith}
use Rattle.std.specs.declared.cmp.Ordering.{Ordering}
use Rattle.std.specs.declared.cmp.Ordering.TheVariants.{Less, Equal, Greater}
use Rattle.std.specs.Ordering.{is_eq}
use Rattle.std.specs.FinMap.{IsAntisymmetric}
use Rattle.std.proofs.lemmas.Map.Lookups.{exact_signed}
use Rattle.std.specs.Option.{unwrap_or}
use Rattle.cov_tables.specs.Fields.{Row, whole_at}
use Rattle.cov_tables.specs.Hits.{Spot, spot_cmp, spot_at, is_spot, counts_with, counted, only_count}
use Rattle.cov_tables.proofs.Columns.{both_Equal}
use Rattle.cov_tables.specs.Kept.{with_count, with_counts}

-- the count where some rows are counted and others are left
abbrev pub in_all : Option ℕ → List (Option ℤ) → ℕ
in_all None left = only_count left
in_all (Some n) [] = n
in_all (Some n) (c ∷ cs) = 1

pub in_all-nil : (o : Option ℕ) → in_all o [] ≡ unwrap_or o 1
in_all-nil None = refl
in_all-nil (Some n) = refl

-- at most one more
pub in_all-one : (o : Option ℕ) (c : Option ℤ) (left : List (Option ℤ)) → in_all (with_counts o (c ∷ [])) left ≡ in_all o (c ∷ left)
in_all-one None c [] = refl
in_all-one None c (d ∷ ds) = refl
in_all-one (Some n) c [] = refl
in_all-one (Some n) c (d ∷ ds) = refl

-- a row in the sum, where it is of this spot
pub in_all-row : (o : Option ℕ) (s : Spot) (r : Row) (left : List (Option ℤ)) → in_all (with_counts o (counts_with s r)) left ≡ in_all o (counts_with s r ++ left)
in_all-row o s r left = by (is_spot s (spot_at r))
  where
    by : (b : Bool) → in_all (with_counts o (cond b (whole_at r 4 ∷ []) [])) left ≡ in_all o (cond b (whole_at r 4 ∷ []) [] ++ left)
    by true = in_all-one o (whole_at r 4) left
    by false = refl

spot_cmp-same : IsAntisymmetric spot_cmp
spot_cmp-same x y e =
    let a = both_Equal _ _ e in
    let b = both_Equal _ _ a.1 in
    let d = both_Equal _ _ b.1 in
    let file = exact_signed _ _ a.0 in
    let context = exact_signed _ _ b.0 in
    let from = exact_signed _ _ d.0 in
    let to = exact_signed _ _ d.1 in
    λ i. record { file_id = file i; context_id = context i; from = from i; to = to i }

-- what is kept of another spot, after a row of this one
pub kept_with : (kept : Spot → Option ℕ) (q s : Spot) (c : Option ℤ) → cond (is_eq (spot_cmp q s)) (Some (with_count (kept s) (counted c))) (kept q) ≡ with_counts (kept q) (cond (is_eq (spot_cmp q s)) (c ∷ []) [])
kept_with kept q s c = by (spot_cmp q s) refl
  where
    by : (r : Ordering) → spot_cmp q s ≡ r → cond (is_eq r) (Some (with_count (kept s) (counted c))) (kept q) ≡ with_counts (kept q) (cond (is_eq r) (c ∷ []) [])
    by Less e = refl
    by Equal e = ap (λ t. Some (with_count (kept t) (counted c))) (sym (spot_cmp-same q s e))
    by Greater e = refl

-- what is left of a list at an index
pub drop_at : {X : Type 0} (xs : List X) (i : ℕ) (x : X) → i < length xs → x ≡ get_or xs i x → drop i xs ≡ x ∷ drop (i + 1) xs
drop_at xs i x below is = let next : suc i ≡ i + 1 = omega arith in drop-cons xs i x below ∙ (λ k. sym is k ∷ drop (next k) xs)
