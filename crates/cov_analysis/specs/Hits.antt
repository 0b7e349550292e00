-- How often lines were executed and branches were taken, by the rows of recorded data.
--     count_where                     the counts of some rows, together
--     goes_to, line_count             of the rows that go to a line
--     takes, is_taken, branch_count   of the rows that take a branch
--     line_hits, branch_hits          how often, at least once where it was executed or taken
use Rattle.std.specs.Prelude.{ℕ, pos, min, max, ◌&&◌, Bool, if◌then◌else◌, List}
use Rattle.std.specs.List.{list_any, sum_by}
use Rattle.std.specs.Ordering.{int_eq}
use Rattle.cov_data.specs.DataSet.{most_count}
use Rattle.cov_data.specs.Rows.{RowView}
use Rattle.cov_analysis.specs.Lines.{is_among}
use Rattle.cov_analysis.specs.Branches.{Branch, is_covered}

-- the counts of the rows that pass, together. They stop at the greatest count
abbrev pub count_where : (RowView → Bool) → List RowView → ℕ
count_where passes rows = min (sum_by (λ row. if passes row then row.count else 0) rows) most_count

-- whether a row goes to a line: a row of line data goes to its own
abbrev pub goes_to : ℕ → RowView → Bool
goes_to line row = int_eq row.to (pos line)

-- how often rows go to a line
abbrev pub line_count : List RowView → ℕ → ℕ
line_count rows line = count_where (goes_to line) rows

-- whether a row takes a branch
abbrev pub takes : Branch → RowView → Bool
takes branch row = int_eq row.from (pos branch.0) && int_eq row.to branch.1

-- whether a row takes a branch
abbrev pub is_taken : List RowView → Branch → Bool
is_taken rows branch = list_any (takes branch) rows

-- how often rows take a branch
abbrev pub branch_count : List RowView → Branch → ℕ
branch_count rows branch = count_where (takes branch) rows

-- A line that no run executed has none, and an executed one at least one: the outside may have been
-- left from it.
abbrev pub line_hits : List ℕ → (ℕ → ℕ) → ℕ → ℕ
line_hits executed count line = if is_among executed line then max 1 (count line) else 0

-- A missing branch has none, and a covered one at least one: its line may be one that needn't take
-- it.
abbrev pub branch_hits : List ℕ → (Branch → Bool) → (Branch → ℕ) → Branch → ℕ
branch_hits no_branch is_taken count branch =
    if is_covered no_branch is_taken branch then max 1 (count branch) else 0
