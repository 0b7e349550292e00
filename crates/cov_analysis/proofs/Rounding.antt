-- Division with a rest, and the nearest whole number.
use Rattle.std.proofs.Common.{◌≡◌, ◌≢◌, ◌≤◌, ◌<◌, ◌⊎◌, inl, inr, ℕ, zero, suc, ◌+◌, ◌*◌, ◌/◌, ◌%◌, refl, sym, subst, arith}
use Rattle.std.proofs.Math.Nat.{div-add-mod, mod-lt, add-mul}
use Rattle.cov_analysis.specs.Percent.{IsEven, IsNearest, IsPercent, at_least_one, at_most_99, nearest, RoundsUp}

-- an odd number and one more, and a number that isn't odd
after_odd : (n : ℕ) → n % 2 ≡ 1 → IsEven (n + 1)
after_odd n odd = (n / 2 + 1, (let cut = div-add-mod n 2 in omega (arith, cut, odd)))

not_odd : (n : ℕ) → (n % 2 ≡ 1 → ⊥) → IsEven n
not_odd n h = (n / 2, (let cut = div-add-mod n 2 in let less : n % 2 < 2 = mod-lt n (omega arith) in let even : n % 2 ≡ 0 = zero_of (n % 2) less h in omega (arith, cut, even)))
  where
    zero_of : (r : ℕ) → r < 2 → (r ≡ 1 → ⊥) → r ≡ 0
    zero_of zero less h = refl
    zero_of (suc zero) less h = absurd (h refl)
    zero_of (suc (suc r)) less h = absurd (omega (arith, less))

more_one : (n b : ℕ) → (n + 1) * b ≡ n * b + b
more_one n b = omega (arith, add-mul n 1 b)

pub up_is_nearest : (part whole n rest : ℕ) → n * whole + rest ≡ part → rest < whole → RoundsUp n rest whole → IsNearest part whole (n + 1)
up_is_nearest part whole n rest cut less (inl more) =
    let product = more_one n whole in
    record {
      not_above = omega (arith, cut, less, more, product);
      not_below = omega (arith, cut, less, more, product);
      half_above = λ same. absurd (omega (arith, cut, less, more, product, same));
      half_below = λ same. absurd (omega (arith, cut, less, more, product, same));
    }
up_is_nearest part whole n rest cut less (inr half) =
    let product = more_one n whole in
    let is = half.0 in
    record {
      not_above = omega (arith, cut, less, is, product);
      not_below = omega (arith, cut, less, is, product);
      half_above = λ same. after_odd n half.1;
      half_below = λ same. absurd (omega (arith, cut, less, is, product, same));
    }

pub down_is_nearest : (part whole n rest : ℕ) → n * whole + rest ≡ part → rest < whole → (RoundsUp n rest whole → ⊥) → IsNearest part whole n
down_is_nearest part whole n rest cut less down =
    let most : 2 * rest ≤ whole = at_most (2 * rest) whole (λ h. down (inl h)) in
    record {
      not_above = omega (arith, cut, less, most);
      not_below = omega (arith, cut, less, most);
      half_above = λ same. absurd (omega (arith, cut, less, most, same));
      half_below = λ same. let is : 2 * rest ≡ whole = omega (arith, cut, same) in not_odd n (λ odd. down (inr (is, odd)));
    }
  where
    at_most : (a b : ℕ) → (b < a → ⊥) → a ≤ b
    at_most a b h = omega (arith, h)

pub least_is_percent : (covered all r n : ℕ) → all ≢ 0 → n ≡ 0 → IsNearest (100 * covered) all n → ((covered ≡ 0) × (r ≡ 0) ⊎ (covered ≢ 0) × (r ≡ 1)) → IsPercent covered all r
least_is_percent covered all r n some is near (inl zero') =
    subst (IsPercent covered all) (sym zero'.1) (nearest 0 some (subst (IsNearest (100 * covered) all) is near) (λ e. zero'.0) (λ e. absurd (omega (arith, e))))
least_is_percent covered all r n some is near (inr one) =
    subst (IsPercent covered all) (sym one.1) (at_least_one some one.0 (subst (IsNearest (100 * covered) all) is near))

pub most_is_percent : (covered all r n : ℕ) → all ≢ 0 → n ≡ 100 → IsNearest (100 * covered) all n → ((covered ≡ all) × (r ≡ 100) ⊎ (covered ≢ all) × (r ≡ 99)) → IsPercent covered all r
most_is_percent covered all r n some is near (inl whole) =
    subst (IsPercent covered all) (sym whole.1) (nearest 100 some (subst (IsNearest (100 * covered) all) is near) (λ e. absurd (omega (arith, e))) (λ e. whole.0))
most_is_percent covered all r n some is near (inr less) =
    subst (IsPercent covered all) (sym less.1) (at_most_99 some less.0 (subst (IsNearest (100 * covered) all) is near))

pub other_is_percent : (covered all n : ℕ) → all ≢ 0 → n ≢ 0 → n ≢ 100 → IsNearest (100 * covered) all n → IsPercent covered all n
other_is_percent covered all n some not_zero not_all near = nearest n some near (λ e. absurd (not_zero e)) (λ e. absurd (not_all e))
