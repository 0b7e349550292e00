-- The percentage that a report shows. (coverage.py documentation, "Reporting")
use Rattle.std.specs.Prelude.{ℕ, ◌+◌, ◌*◌, ◌/◌, ◌%◌, min, max, nat_lt, ◌==◌, ◌&&◌, ◌||◌, Bool, if◌then◌else◌}
use Rattle.cov_analysis.specs.Counts.{covered_of, all_of}
use Rattle.cov_analysis.specs.declared.numbers.Numbers.{Numbers}

-- whether what is left of a / b after its whole part n is over a half, or a half where n is odd
abbrev pub rounds_up : ℕ → ℕ → ℕ → Bool
rounds_up n rest b = nat_lt b (2 * rest) || (2 * rest == b && n % 2 == 1)

-- the whole number nearest to a / b, and the even one of two
abbrev pub nearest : ℕ → ℕ → ℕ
nearest a b = if rounds_up (a / b) (a % b) b then a / b + 1 else a / b

-- at least 1 where something was covered, and at most 99 where something was not
abbrev pub percentage : ℕ → ℕ → ℕ
percentage covered all =
    if all == 0 then 100 else if covered == 0 then 0 else if covered == all then 100
    else max 1 (min 99 (nearest (100 * covered) all))

-- how many of a hundred statements and branches were covered, as reports say it
abbrev pub percent : Numbers → ℕ
percent n = percentage (covered_of n) (all_of n)
