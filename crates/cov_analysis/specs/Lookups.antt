-- What the maps of the code find.
use Rattle.std.specs.Prelude.{ℕ, ℤ, pos, negsuc, Bool, if◌then◌else◌, Option, Some, None, is_some, unwrap_or}
use Rattle.std.specs.BTreeMap.{BTreeMap, get}
use Rattle.std.specs.Ordering.{nat_cmp}
use Rattle.cov_data.specs.DataSet.{add_counts}
use Rattle.cov_analysis.specs.Branches.{Branch, branch_cmp}

-- the line that a number of a row or an end of an arc is
abbrev pub line_at : ℤ → Option ℕ
line_at (pos line) = Some line
line_at (negsuc n) = None

-- how often, in a map by lines
abbrev pub count_in : BTreeMap ℕ ℕ → ℕ → ℕ
count_in counts line = unwrap_or (get nat_cmp counts line) 0

-- whether a map by branches has a branch, and how often
abbrev pub is_counted : BTreeMap Branch ℕ → Branch → Bool
is_counted counts branch = is_some (get branch_cmp counts branch)

-- the count of a branch, or 0
abbrev pub branch_count_in : BTreeMap Branch ℕ → Branch → ℕ
branch_count_in counts branch = unwrap_or (get branch_cmp counts branch) 0

-- a count that is raised where a test passes
abbrev pub raised : Bool → ℕ → ℕ → ℕ
raised passes old count = if passes then add_counts old count else old
