-- Integers from -6 on, as natural numbers: `val u` is u less 6.
use Rattle.std.proofs.Common.{◌≡◌, ℕ, zero, suc, ◌+◌, ◌-◌, ◌/◌, ◌<◌, ◌≤◌, ◌^◌, true, refl, arith, ap, sym, ◌∙◌, ℤ, pos, negsuc, ◌+ℤ◌, ◌-ℤ◌, Ok}
use Rattle.std.specs.Ordering.{int_cmp, is_gt}
use Rattle.py_operator.specs.declared.operator.BinOp.TheVariants.{Add, Sub, Floor}
use Rattle.py_value.specs.Numbers.{arithmetic, exact, fits_64_bits}

-- the integer that is 6 less
abbrev pub val : ℕ → ℤ
val u = pos u -ℤ pos 6

fits : (x : ℤ) (u : ℕ) → x ≡ val u → u < 2 ^ 40 → fits_64_bits x ≡ true
fits (pos n) u e h = grind arith
fits (negsuc n) u e h = grind arith

is_exact : (x : ℤ) (u : ℕ) → x ≡ val u → u < 2 ^ 40 → exact x ≡ Ok (val u)
is_exact x u e h = rw (fits x u e h, e) refl

-- ---- below 0, or not

pub data Side (u : ℕ) : Type 0 where
  up : (n : ℕ) → u ≡ n + 6 → val u ≡ pos n → Side u
  down : (m : ℕ) → u + m ≡ 5 → val u ≡ negsuc m → Side u

val_pos : (u n : ℕ) → u ≡ n + 6 → val u ≡ pos n
val_pos u n e = grind arith

val_neg : (u m : ℕ) → u + m ≡ 5 → val u ≡ negsuc m
val_neg u m e = grind arith

next : {u : ℕ} → Side u → Side (suc u)
next {u} (up n e h) = up (suc n) (omega (arith, e)) (val_pos (suc u) (suc n) (omega (arith, e)))
next {u} (down zero e h) = up 0 (omega (arith, e)) (val_pos (suc u) 0 (omega (arith, e)))
next {u} (down (suc m) e h) = down m (omega (arith, e)) (val_neg (suc u) m (omega (arith, e)))

pub side : (u : ℕ) → Side u
side zero = down 5 refl refl
side (suc u) = next (side u)

-- ---- operations

sum_is : (u j : ℕ) → Side u → val u +ℤ pos j ≡ val (u + j)
sum_is u j (up n e h) = rw h (sym (val_pos (u + j) (n + j) (omega (arith, e))))
sum_is u j (down m e h) = rw h (below (u + j) m j (omega (arith, e)))
  where
    below : (w m j : ℕ) → w + m ≡ 5 + j → negsuc m +ℤ pos j ≡ val w
    below w m j e = grind arith

pub adds : (u j : ℕ) → u + j < 2 ^ 40 → arithmetic Add (val u) (pos j) ≡ Ok (val (u + j))
adds u j h = is_exact (val u +ℤ pos j) (u + j) (sum_is u j (side u)) h

less_is : (u w : ℕ) → u ≡ w + 7 → val u -ℤ pos 7 ≡ val w
less_is u w e = grind arith

pub takes : (u w : ℕ) → u ≡ w + 7 → u < 2 ^ 40 → arithmetic Sub (val u) (pos 7) ≡ Ok (val w)
takes u w e h = is_exact (val u -ℤ pos 7) w (less_is u w e) (omega (arith, e, h))

pub above : (u m : ℕ) → is_gt (int_cmp (val u) (pos m)) ≡ true → 7 ≤ u
above u m h = grind arith

-- a quotient that is rounded down stands no more than 5 higher
abbrev pub Divides : ℕ → ℕ → Type 0
Divides u j =
    (w : ℕ) × (w ≤ u + 5) × (arithmetic Floor (val u) (pos (suc j)) ≡ Ok (val w))

quotient : (u j : ℕ) → u < 2 ^ 39 → Side u → Divides u j
quotient u j h (up n e k) =
    let w = n / suc j + 6 in (
      w,
      omega (arith, e),
      ap (λ x. arithmetic Floor x (pos (suc j))) k
          ∙ is_exact (pos (n / suc j)) w (sym (val_pos w (n / suc j) refl)) (omega (arith, e, h)),
    )
quotient u j h (down m e k) =
    let w = 5 - m / suc j in (
      w,
      omega (arith, e),
      ap (λ x. arithmetic Floor x (pos (suc j))) k
          ∙ is_exact (negsuc (m / suc j)) w
          (sym (val_neg w (m / suc j) (small m (suc j) (omega (arith, e))))) (omega (arith, e, h)),
    )
  where
    small : (m d : ℕ) → m ≤ 5 → 5 - m / d + m / d ≡ 5
    small m d h = omega (arith, h)

pub divides : (u j : ℕ) → u < 2 ^ 39 → Divides u j
divides u j h = quotient u j h (side u)
