-- The percentage is the one that the relation of an analysis tells.
use Rattle.std.proofs.Common.{◌≡◌, ◌≢◌, ◌≤◌, ◌<◌, ℕ, ◌+◌, ◌*◌, ◌/◌, ◌%◌, min, max, Bool, true, false, cond, ◌&&◌, ◌||◌, eqb, ltb, refl, sym, ap, ◌∙◌, arith, mul-le-mul_right, lt_of_not-le, mod-lt}
use Rattle.std.proofs.Math.Nat.{div-add-mod}
use borrow.Author.Tests.{ltb-true, ltb-false, eqb-true, eqb-false}
use Rattle.cov_analysis.specs.Percent as relation
use Rattle.cov_analysis.specs.Percent.{IsEven, IsNearest, IsPercent}
use Rattle.cov_analysis.specs.Percentage.{nearest, percentage}

not_odd : (n : ℕ) → IsEven n → n % 2 ≡ 1 → ⊥
not_odd n half odd = omega (arith, div-add-mod n 2, half.1)

odd_next : (n : ℕ) → IsEven (n + 1) → n % 2 ≡ 1
odd_next n half = let less : n % 2 < 2 = mod-lt n (omega arith) in omega (arith, div-add-mod n 2, less, half.1)

-- the nearest is the whole part or the number after it
bounded : (a b q r n : ℕ) → r < b → q * b + r ≡ a → IsNearest a b n → (q ≤ n) × (n ≤ q + 1)
bounded a b q r n less cut near =
    let low : n + 1 ≤ q → ⊥ = λ h. let far : (n + 1) * b ≤ q * b = mul-le-mul_right b h in omega (arith, far, near.not_below) in
    let high : q + 2 ≤ n → ⊥ = λ h. let far : (q + 2) * b ≤ n * b = mul-le-mul_right b h in omega (arith, far, near.not_above) in
    let above : q < n + 1 = lt_of_not-le low in
    let below : n < q + 2 = lt_of_not-le high in
    (omega (arith, above), omega (arith, below))

same_product : (b n q : ℕ) → n ≡ q → n * b ≡ q * b
same_product b n q e = ap (λ (k : ℕ). k * b) e

-- by whether what is left is more than a half, is a half, and whether the whole part is odd
decided : (a b q r n : ℕ) (t u v : Bool) → ltb b (2 * r) ≡ t → eqb (2 * r) b ≡ u → eqb (q % 2) 1 ≡ v → r < b → q * b + r ≡ a → IsNearest a b n → n ≡ cond (t || (u && v)) (q + 1) q
decided a b q r n true u v t-is u-is v-is less cut near =
    let more : b < 2 * r = ltb-true b (2 * r) t-is in
    let near_by = bounded a b q r n less cut near in
    let not_here : n ≡ q → ⊥ = λ e. omega (arith, same_product b n q e, near.not_below) in
    omega (arith, near_by.0, near_by.1, not_here)
decided a b q r n false true true t-is u-is v-is less cut near =
    let half : 2 * r ≡ b = eqb-true (2 * r) b u-is in
    let odd : q % 2 ≡ 1 = eqb-true (q % 2) 1 v-is in
    let near_by = bounded a b q r n less cut near in
    let not_here : n ≡ q → ⊥ = λ e. not_odd n (near.half_below (omega (arith, same_product b n q e))) (ap (λ (k : ℕ). k % 2) e ∙ odd) in
    omega (arith, near_by.0, near_by.1, not_here)
decided a b q r n false true false t-is u-is v-is less cut near =
    let half : 2 * r ≡ b = eqb-true (2 * r) b u-is in
    let even : q % 2 ≡ 1 → ⊥ = eqb-false (q % 2) 1 v-is in
    let near_by = bounded a b q r n less cut near in
    let not_next : n ≡ q + 1 → ⊥ = λ e. even (odd_next q (next_even a b q n e near (omega (arith, same_product b n (q + 1) e)))) in
    omega (arith, near_by.0, near_by.1, not_next)
  where
    next_even : (a b q n : ℕ) → n ≡ q + 1 → IsNearest a b n → 2 * (n * b) ≡ 2 * a + b → IsEven (q + 1)
    next_even a b q n e near half = let even = near.half_above half in (even.0, sym e ∙ even.1)
decided a b q r n false false v t-is u-is v-is less cut near =
    let not_more : 2 * r ≤ b = ltb-false b (2 * r) t-is in
    let no_half : 2 * r ≡ b → ⊥ = eqb-false (2 * r) b u-is in
    let near_by = bounded a b q r n less cut near in
    let not_next : n ≡ q + 1 → ⊥ = λ e. omega (arith, same_product b n (q + 1) e, near.not_above, no_half) in
    omega (arith, near_by.0, near_by.1, not_next)

nearest_is : (a b n : ℕ) → 0 < b → IsNearest a b n → n ≡ nearest a b
nearest_is a b n some near =
    let cut : a / b * b + a % b ≡ a = omega (arith, div-add-mod a b) in
    decided a b (a / b) (a % b) n (ltb b (2 * (a % b))) (eqb (2 * (a % b)) b) (eqb (a / b % 2) 1) refl refl refl (mod-lt a some) cut near

-- what the relation says of each case
record Says (covered all n : ℕ) : Type 0 where
  nothing : all ≡ 0 → n ≡ 100
  none : all ≢ 0 → covered ≡ 0 → n ≡ 0
  whole : all ≢ 0 → covered ≢ 0 → covered ≡ all → n ≡ 100
  part : all ≢ 0 → covered ≢ 0 → covered ≢ all → n ≡ max 1 (min 99 (nearest (100 * covered) all))

says : (covered all n : ℕ) → covered ≤ all → IsPercent covered all n → Says covered all n
says covered all _ within (relation.of_nothing z) =
    record { nothing = λ e. refl; none = λ h. absurd (h z); whole = λ h. absurd (h z); part = λ h. absurd (h z) }
says covered all _ within (relation.at_least_one some part near) =
    record {
      nothing = λ z. absurd (some z);
      none = λ h z. absurd (part z);
      whole = λ h g e. absurd (omega (arith, near.not_below, some, e));
      part = λ h g f. ap (λ (k : ℕ). max 1 (min 99 k)) (nearest_is (100 * covered) all 0 (omega (arith, some)) near);
    }
says covered all _ within (relation.at_most_99 some part near) =
    record {
      nothing = λ z. absurd (some z);
      none = λ h z. absurd (omega (arith, near.not_above, some, z));
      whole = λ h g e. absurd (part e);
      part = λ h g f. ap (λ (k : ℕ). max 1 (min 99 k)) (nearest_is (100 * covered) all 100 (omega (arith, some)) near);
    }
says covered all _ within (relation.nearest n some near zero_is all_is) =
    record {
      nothing = λ z. absurd (some z);
      none = λ h z.
          let more : 1 ≤ n → ⊥ = λ k. let far : 1 * all ≤ n * all = mul-le-mul_right all k in omega (arith, far, near.not_above, some, z) in
          let less : n < 1 = lt_of_not-le more in
          omega (arith, less);
      whole = λ h g e.
          let more : 101 ≤ n → ⊥ = λ k. let far : 101 * all ≤ n * all = mul-le-mul_right all k in omega (arith, far, near.not_above, some, e) in
          let fewer : n ≤ 99 → ⊥ = λ k. let far : n * all ≤ 99 * all = mul-le-mul_right all k in omega (arith, far, near.not_below, some, e) in
          let least : 99 < n = lt_of_not-le fewer in
          let most : n < 101 = lt_of_not-le more in
          omega (arith, least, most);
      part = λ h g f.
          let more : 101 ≤ n → ⊥ = λ k. let far : 101 * all ≤ n * all = mul-le-mul_right all k in omega (arith, far, near.not_above, within, some) in
          let most : n < 101 = lt_of_not-le more in
          let low : n ≢ 0 = λ z. g (zero_is z) in
          let high : n ≢ 100 = λ z. f (all_is z) in
          let kept : n ≡ max 1 (min 99 n) = omega (arith, low, high, most) in
          kept ∙ ap (λ (k : ℕ). max 1 (min 99 k)) (nearest_is (100 * covered) all n (omega (arith, some)) near);
    }

by_cases : (covered all n : ℕ) (t u v : Bool) → eqb all 0 ≡ t → eqb covered 0 ≡ u → eqb covered all ≡ v → Says covered all n → n ≡ cond t 100 (cond u 0 (cond v 100 (max 1 (min 99 (nearest (100 * covered) all)))))
by_cases covered all n true u v t-is u-is v-is s = s.nothing (eqb-true all 0 t-is)
by_cases covered all n false true v t-is u-is v-is s = s.none (eqb-false all 0 t-is) (eqb-true covered 0 u-is)
by_cases covered all n false false true t-is u-is v-is s = s.whole (eqb-false all 0 t-is) (eqb-false covered 0 u-is) (eqb-true covered all v-is)
by_cases covered all n false false false t-is u-is v-is s = s.part (eqb-false all 0 t-is) (eqb-false covered 0 u-is) (eqb-false covered all v-is)

pub percentage_is : (covered all n : ℕ) → covered ≤ all → IsPercent covered all n → n ≡ percentage covered all
percentage_is covered all n within is =
    by_cases covered all n (eqb all 0) (eqb covered 0) (eqb covered all) refl refl refl (says covered all n within is)
