-- The percentage of a report (coverage.py's "Reporting"): the nearest whole number, but never 0 or
-- 100 unless it is.
use Rattle.std.specs.Prelude.{◌≡◌, ◌≢◌, ◌≤◌, ◌<◌, ◌⊎◌, ℕ, ◌+◌, ◌*◌, ◌%◌}

-- twice some number
abbrev pub IsEven : ℕ → Type 0
IsEven n = (h : ℕ) × (n ≡ 2 * h)

-- the whole number that is nearest to a / b: no further than a half from it, and even where it is a
-- half
pub record IsNearest (a b n : ℕ) : Type 0 where
  pub not_above : 2 * (n * b) ≤ 2 * a + b
  pub not_below : 2 * a ≤ 2 * (n * b) + b
  pub half_above : 2 * (n * b) ≡ 2 * a + b → IsEven n
  pub half_below : 2 * a ≡ 2 * (n * b) + b → IsEven n

-- 0 only where nothing is covered, 100 only where all is, and else the nearest
pub data IsPercent (covered all : ℕ) : ℕ → Type 0 where
  of_nothing : all ≡ 0 → IsPercent covered all 100
  at_least_one : all ≢ 0 → covered ≢ 0 → IsNearest (100 * covered) all 0 → IsPercent covered all 1
  at_most_99 : all ≢ 0 → covered ≢ all → IsNearest (100 * covered) all 100
      → IsPercent covered all 99
  nearest : (n : ℕ) → all ≢ 0 → IsNearest (100 * covered) all n → (n ≡ 0 → covered ≡ 0)
      → (n ≡ 100 → covered ≡ all) → IsPercent covered all n

-- what is left is more than a half, or a half after an odd number
abbrev pub RoundsUp : ℕ → ℕ → ℕ → Type 0
RoundsUp number rest whole = (whole < 2 * rest) ⊎ (2 * rest ≡ whole) × (number % 2 ≡ 1)
