-- The value of digits, up to a limit.
use Rattle.std.proofs.Common.{◌≡◌, ◌≤◌, ◌+◌, ◌*◌, min, ℕ, Bool, true, false, cond, List, [], ◌∷◌, eqb, ◌⊎◌, inl, inr, sym, ap, arith}
use Rattle.std.proofs.Math.Nat.{mul-le-mul_left}
use Rattle.std.proofs.lemmas.Bool.{cases_lt, ne_eqb}
use Rattle.std.specs.Char.{digit_value}
use Rattle.py_token.specs.Numbers.{digits_value}

-- a value never falls
next_ge : (base n c : ℕ) → 1 ≤ base → n ≤ cond (eqb c 95) n (n * base + digit_value c)
next_ge base n c some = go (eqb c 95)
  where
    go : (b : Bool) → n ≤ cond b n (n * base + digit_value c)
    go true = omega arith
    go false = let h = mul-le-mul_left n some in omega (arith, h)

value_ge : (base n : ℕ) (cs : List ℕ) → 1 ≤ base → n ≤ digits_value base n cs
unfolding digits_value
value_ge base n [] some = omega arith
value_ge base n (c ∷ cs) some = let h = next_ge base n c some in let r = value_ge base (cond (eqb c 95) n (n * base + digit_value c)) cs some in omega (arith, h, r)

min_both : (a b l : ℕ) → l ≤ a → l ≤ b → min a l ≡ min b l
min_both a b l ha hb = omega arith

-- what stands above the limit makes no difference
pub value_capped : (base m l : ℕ) (cs : List ℕ) → 1 ≤ base → min (digits_value base (min m l) cs) l ≡ min (digits_value base m cs) l
value_capped base m l cs some = go (cases m l)
  where
    cases : (m l : ℕ) → (min m l ≡ m) ⊎ ((l ≤ m) × (min m l ≡ l))
    cases m l = elim (cases_lt m l) as (λ w. (min m l ≡ m) ⊎ ((l ≤ m) × (min m l ≡ l))) [ inl lt ↦ inl (omega arith) | inr ge ↦ inr (ge, omega arith) ]

    go : (min m l ≡ m) ⊎ ((l ≤ m) × (min m l ≡ l)) → min (digits_value base (min m l) cs) l ≡ min (digits_value base m cs) l
    go (inl same) = ap (λ n. min (digits_value base n cs) l) same
    go (inr (above, is)) = let r = value_ge base m cs some in let q = value_ge base (min m l) cs some in min_both (digits_value base (min m l) cs) (digits_value base m cs) l (omega (arith, q, is)) (omega (arith, r, above))

-- one digit more
pub value_more : (base n c : ℕ) (rest cs : List ℕ) → rest ≡ c ∷ cs → (c ≡ 95 → ⊥) → digits_value base (n * base + digit_value c) cs ≡ digits_value base n rest
unfolding digits_value
value_more base n c rest cs is digit = rw is (ap (λ b. digits_value base (cond b n (n * base + digit_value c)) cs) (sym (ne_eqb c 95 digit)))
