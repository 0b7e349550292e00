-- What a report counts.
use Rattle.std.specs.Prelude.{◌≤◌, ℕ, ◌+◌, ◌-◌, min, List, map, sum}
use Rattle.cov_analysis.specs.declared.analysis.Analysis.{Analysis}
use Rattle.cov_analysis.specs.declared.numbers.Numbers.{Numbers}

-- the greatest number, 2^56 - 1
abbrev pub MOST : ℕ
MOST = 72057594037927935

-- nothing is missing that isn't there, and no number is too great
pub record IsCounted (n : Numbers) : Type 0 where
  pub missing : n.missing ≤ n.statements
  pub missing_branches : n.missing_branches ≤ n.branches
  pub statements : n.statements ≤ MOST
  pub branches : n.branches ≤ MOST

-- what was covered, of statements and branches
abbrev pub covered_of : Numbers → ℕ
covered_of n = (n.statements - n.missing) + (n.branches - n.missing_branches)

-- how many things may be covered: statements and branches
abbrev pub all_of : Numbers → ℕ
all_of n = n.statements + n.branches

-- the numbers of an analysis
abbrev pub numbers_of : Analysis → Numbers
numbers_of a = a.numbers

-- a sum that stops at the greatest number
abbrev pub total_of_all : (Numbers → ℕ) → List Numbers → ℕ
total_of_all field all = min (sum (map field all)) MOST

-- the sum of several numbers
abbrev pub total_of : List Numbers → Numbers
total_of all = record {
  statements = total_of_all (λ n. n.statements) all;
  missing = total_of_all (λ n. n.missing) all;
  excluded = total_of_all (λ n. n.excluded) all;
  branches = total_of_all (λ n. n.branches) all;
  missing_branches = total_of_all (λ n. n.missing_branches) all;
  partial = total_of_all (λ n. n.partial) all;
}

-- two numbers field by field, where a sum stops at the greatest number
abbrev pub added_to : Numbers → Numbers → Numbers
added_to a b = record {
  statements = min (a.statements + b.statements) MOST;
  missing = min (a.missing + b.missing) MOST;
  excluded = min (a.excluded + b.excluded) MOST;
  branches = min (a.branches + b.branches) MOST;
  missing_branches = min (a.missing_branches + b.missing_branches) MOST;
  partial = min (a.partial + b.partial) MOST;
}
