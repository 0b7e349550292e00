-- The branches of a source: where its lines may lead. (coverage.py documentation, "Branch coverage
-- measurement")
--     Branch, branch_cmp, same_branch      a line, and what may come next; their order; whether two
--                                          are one
--     from_line                       an arc that begins at a line
--     is_excluded_end, is_open        whether an end is an excluded line; whether a branch touches
--                                     none
--     open_branches                   the predicted arcs of lines that touch no excluded line
--     leaves, forks, branches_of      the branches: those of lines with more than one of them
--     is_covered, missing_branches_of      what counts as taken; the branches that no run took
use Rattle.std.specs.Prelude.{ℕ, ℤ, pos, negsuc, nat_eq, nat_lt, ◌&&◌, ◌||◌, Bool, false, not, List, [], ◌∷◌, filter}
use Rattle.std.specs.declared.cmp.Ordering.{Ordering}
use Rattle.std.specs.List.{count_by, flat_map}
use Rattle.std.specs.Ordering.{nat_cmp, int_cmp, int_eq, ordering_then}
use Rattle.py_syntax.specs.Prediction.{Arc}
use Rattle.cov_analysis.specs.Lines.{is_among}

-- a line and what comes next: a line, or the outside of a function or a module as its first line,
-- negative
abbrev pub Branch : Type 0
Branch = ℕ × ℤ

-- by line, then by what comes next
abbrev pub branch_cmp : Branch → Branch → Ordering
branch_cmp a b = ordering_then (nat_cmp a.0 b.0) (int_cmp a.1 b.1)

-- whether two branches are one
abbrev pub same_branch : Branch → Branch → Bool
same_branch a b = nat_eq a.0 b.0 && int_eq a.1 b.1

-- an arc that begins at a line
abbrev pub from_line : Arc → List Branch
from_line (pos line, to) = (line, to) ∷ []
from_line (negsuc n, to) = []

-- whether an end of an arc is an excluded line
abbrev pub is_excluded_end : List ℕ → ℤ → Bool
is_excluded_end excluded (pos line) = is_among excluded line
is_excluded_end excluded (negsuc n) = false

-- whether neither the line nor what comes next is excluded. Lines count from 1
abbrev pub is_open : List ℕ → Branch → Bool
is_open excluded branch =
    nat_lt 0 branch.0
    && (not (is_among excluded branch.0) && not (is_excluded_end excluded branch.1))

-- the branch of an arc, where that begins at a line and touches no excluded line
abbrev pub open_branch : List ℕ → Arc → List Branch
open_branch excluded arc = filter (is_open excluded) (from_line arc)

-- the branches of arcs, in their order, without those that touch an excluded line
abbrev pub open_branches : List ℕ → List Arc → List Branch
open_branches excluded arcs = flat_map (open_branch excluded) arcs

-- whether a branch leaves a line
abbrev pub leaves : ℕ → Branch → Bool
leaves line branch = nat_eq branch.0 line

-- those whose line has more than one of them
abbrev pub forks : List Branch → List Branch
forks branches = filter (λ branch. nat_lt 1 (count_by (leaves branch.0) branches)) branches

-- the branches of a source with these excluded lines and predicted arcs
abbrev pub branches_of : List ℕ → List Arc → List Branch
branches_of excluded arcs = forks (open_branches excluded arcs)

-- A branch counts as covered where a run took it, or where its line needn't take all of its
-- branches.
abbrev pub is_covered : List ℕ → (Branch → Bool) → Branch → Bool
is_covered no_branch is_taken branch = is_among no_branch branch.0 || is_taken branch

-- those of branches that are not covered
abbrev pub missing_branches_of : List ℕ → (Branch → Bool) → List Branch → List Branch
missing_branches_of no_branch is_taken branches =
    filter (λ branch. not (is_covered no_branch is_taken branch)) branches
