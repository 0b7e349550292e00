-- Sets that counters are made for.
use Rattle.std.proofs.Common.{◌≡◌, ℕ, zero, suc, ◌+◌, ◌<◌, pos, List, [], ◌∷◌, ◌++◌, map, take, Some, refl, ap, sym, ◌∙◌, add-one, add-zero, arith}
use Rattle.std.specs.declared.cmp.Ordering.TheVariants.{Less}
use Rattle.std.specs.Prelude.{max, slice_get, ◌<ℤ◌}
use Rattle.std.specs.Ordering.{int_cmp, ordering_then}
use Rattle.std.specs.Cmp.{int_cmp_is}
use Rattle.std.specs.List.{range_with_len, AllByRecursion}
use Rattle.std.specs.List.Sorted.{IsStrictlySortedBy}
use Rattle.std.proofs.lemmas.Int.{ints}
use Rattle.py_syntax.specs.Prediction.{Arc, by_ends, arcs_in_order}
use Rattle.cov_predict.proofs.Sets.{by_ends-total, by_ends-IsAntisymmetric, rises_from_sorted, ordered-unique, arcs_in_order-is}
use Rattle.cov_recorder.specs.Plan.{line_of, greatest, lines_to}

-- ---- the greatest line

pub greatest-push : (xs : List Arc) (a : Arc) → greatest (xs ++ a ∷ []) ≡ max (max (greatest xs) (line_of a.0)) (line_of a.1)
greatest-push [] a = omega arith
greatest-push (x ∷ xs) a = omega (arith, greatest-push xs a)

take-suc : (xs : List Arc) (i : ℕ) (a : Arc) → slice_get xs i ≡ Some a → take (suc i) xs ≡ take i xs ++ a ∷ []
take-suc [] i a e = cc
take-suc (x ∷ xs) zero a e =
    let same : x ≡ a = cc in
    ap (λ y. y ∷ []) same
take-suc (x ∷ xs) (suc i) a e = ap (λ w. x ∷ w) (take-suc xs i a e)

pub greatest_more : (xs : List Arc) (i : ℕ) (a : Arc) → slice_get xs i ≡ Some a → greatest (take (i + 1) xs) ≡ max (max (greatest (take i xs)) (line_of a.0)) (line_of a.1)
greatest_more xs i a e = ap (λ n. greatest (take n xs)) (add-one i) ∙ ap greatest (take-suc xs i a e) ∙ greatest-push (take i xs) a

-- ---- lines up to one

range-push : (a n : ℕ) → range_with_len a (suc n) ≡ range_with_len a n ++ (a + n) ∷ []
range-push a zero = ap (λ k. k ∷ []) (sym (add-zero a))
range-push a (suc n) =
    let moved : (a + 1) + n ≡ a + suc n = omega arith in
    ap (λ w. a ∷ w) (range-push (a + 1) n ∙ ap (λ k. range_with_len (a + 1) n ++ k ∷ []) moved)

map-push : (xs : List ℕ) (k : ℕ) → map (λ l. let a : Arc = (pos l, pos l) in a) (xs ++ k ∷ []) ≡ map (λ l. let a : Arc = (pos l, pos l) in a) xs ++ (pos k, pos k) ∷ []
map-push [] k = refl
map-push (x ∷ xs) k = ap (λ w. (pos x, pos x) ∷ w) (map-push xs k)

pub lines_to-push : (n : ℕ) → lines_to (n + 1) ≡ lines_to n ++ (pos (n + 1), pos (n + 1)) ∷ []
lines_to-push n =
    let more : 1 + n ≡ n + 1 = omega arith in
    ap lines_to (add-one n)
    ∙ ap (map (λ l. let a : Arc = (pos l, pos l) in a)) (range-push 1 n)
    ∙ map-push (range_with_len 1 n) (1 + n)
    ∙ ap (λ k. lines_to n ++ (pos k, pos k) ∷ []) more

below : (k l : ℕ) → k < l → int_cmp (pos k) (pos l) ≡ Less
below k l h =
    let less : pos k <ℤ pos l = omega (arith, ints) in
    sym (int_cmp_is (pos k) (pos l) Less less)

all_below : (k a n : ℕ) → k < a → AllByRecursion (λ y. by_ends (pos k, pos k) y ≡ Less) (map (λ l. let a : Arc = (pos l, pos l) in a) (range_with_len a n))
all_below k a zero h = tt
all_below k a (suc n) h = (ap (λ r. ordering_then r (int_cmp (pos k) (pos a))) (below k a h), all_below k (a + 1) n (omega (arith, h)))

lines_rise : (a n : ℕ) → IsStrictlySortedBy by_ends (map (λ l. let a : Arc = (pos l, pos l) in a) (range_with_len a n))
unfolding IsStrictlySortedBy
lines_rise a zero = tt
lines_rise a (suc n) = (all_below a (a + 1) n (omega arith), lines_rise (a + 1) n)

pub lines_in_order : (n : ℕ) → arcs_in_order (lines_to n) ≡ lines_to n
lines_in_order n =
    arcs_in_order-is (lines_to n)
    ∙ sym (ordered-unique by_ends by_ends-total by_ends-IsAntisymmetric (lines_to n) (lines_to n) (rises_from_sorted by_ends (lines_to n) (lines_rise 1 n)) (λ q. refl))
