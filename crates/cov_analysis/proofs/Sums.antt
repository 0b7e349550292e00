-- Sums that stop at the greatest number.
use Rattle.std.proofs.Common.{◌≡◌, ◌≤◌, ℕ, ◌+◌, min, List, [], map, sum, ap, ◌∙◌, arith}
use Rattle.cov_analysis.specs.declared.numbers.Numbers.{Numbers}
use Rattle.cov_analysis.specs.Counts.{MOST, added_to}

-- what the sums come to, with further numbers
abbrev pub going_on : Numbers → List Numbers → Numbers
going_on a all = record {
  statements = min (a.statements + sum (map (λ n. n.statements) all)) MOST;
  missing = min (a.missing + sum (map (λ n. n.missing) all)) MOST;
  excluded = min (a.excluded + sum (map (λ n. n.excluded) all)) MOST;
  branches = min (a.branches + sum (map (λ n. n.branches) all)) MOST;
  missing_branches = min (a.missing_branches + sum (map (λ n. n.missing_branches) all)) MOST;
  partial = min (a.partial + sum (map (λ n. n.partial) all)) MOST;
}

-- no number is greater than that
abbrev pub AreSmall : Numbers → Type 0
AreSmall a = (a.statements ≤ MOST) × (a.missing ≤ MOST) × (a.excluded ≤ MOST) × (a.branches ≤ MOST) × (a.missing_branches ≤ MOST) × (a.partial ≤ MOST)

stays : (n : ℕ) → n ≤ MOST → min (n + 0) MOST ≡ n
stays n h = omega (arith, h)

stopped : (n m : ℕ) → min (n + m) MOST ≤ MOST
stopped n m = omega arith

-- nothing more
pub ended : (a : Numbers) → AreSmall a → going_on a [] ≡ a
ended a h =
    ap (λ (n : ℕ). record { statements = n; missing = min (a.missing + 0) MOST; excluded = min (a.excluded + 0) MOST; branches = min (a.branches + 0) MOST; missing_branches = min (a.missing_branches + 0) MOST; partial = min (a.partial + 0) MOST }) (stays a.statements h.0)
    ∙ ap (λ (n : ℕ). record { statements = a.statements; missing = n; excluded = min (a.excluded + 0) MOST; branches = min (a.branches + 0) MOST; missing_branches = min (a.missing_branches + 0) MOST; partial = min (a.partial + 0) MOST }) (stays a.missing h.1)
    ∙ ap (λ (n : ℕ). record { statements = a.statements; missing = a.missing; excluded = n; branches = min (a.branches + 0) MOST; missing_branches = min (a.missing_branches + 0) MOST; partial = min (a.partial + 0) MOST }) (stays a.excluded h.2)
    ∙ ap (λ (n : ℕ). record { statements = a.statements; missing = a.missing; excluded = a.excluded; branches = n; missing_branches = min (a.missing_branches + 0) MOST; partial = min (a.partial + 0) MOST }) (stays a.branches h.3)
    ∙ ap (λ (n : ℕ). record { statements = a.statements; missing = a.missing; excluded = a.excluded; branches = a.branches; missing_branches = n; partial = min (a.partial + 0) MOST }) (stays a.missing_branches h.4)
    ∙ ap (λ (n : ℕ). record { statements = a.statements; missing = a.missing; excluded = a.excluded; branches = a.branches; missing_branches = a.missing_branches; partial = n }) (stays a.partial h.5)

pub added_small : (a b : Numbers) → AreSmall (added_to a b)
added_small a b =
    (stopped a.statements b.statements, stopped a.missing b.missing, stopped a.excluded b.excluded, stopped a.branches b.branches, stopped a.missing_branches b.missing_branches, stopped a.partial b.partial)
