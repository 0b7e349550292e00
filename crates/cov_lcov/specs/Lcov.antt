-- A report in LCOV's format. (manual page of geninfo, "FILES"; coverage.py documentation, "LCOV
-- reporting"; the field `exit` and the order of branches are this project's)
--     statement_row, statement_rows           a statement and its hits; those of a file
--     Entry, entry_of, entry_cmp, entries_of  branches with their hits, in the order of a report
--     is_missing, leaves_covered              a branch is missing; a line has one that isn't
--     taken_text, destination_text            the parts of a branch's row
--     branch_row, branch_rows, branch_part    the rows of branches
--     file_bytes, lcov_bytes                  the record of a file, and a report
use Rattle.std.specs.Prelude.{ℕ, ℤ, pos, negsuc, nat_eq, ◌-◌, ◌&&◌, Bool, true, false, not, if◌then◌else◌, List, [], ◌++◌, map, codes, decimal}
use Rattle.std.specs.declared.cmp.Ordering.{Ordering}
use Rattle.std.specs.BTreeSet.{insert_key}
use Rattle.std.specs.List.{flat_map, fold, list_any, zip}
use Rattle.std.specs.Ordering.{bool_cmp, nat_cmp, int_cmp, ordering_then}
use Rattle.cov_analysis.specs.Branches.{Branch, same_branch}
use Rattle.cov_analysis.specs.Analyses.{AnalysisView}

-- a statement and how often it was executed
abbrev pub statement_row : ℕ × ℕ → List ℕ
statement_row (line, hits) =
    codes "DA:" ++ (decimal line ++ (codes "," ++ (decimal hits ++ codes "\n")))

-- the line of a branch, whether it leaves its function or module, its destination and its hits
abbrev pub Entry : Type 0
Entry = ℕ × Bool × ℤ × ℕ

-- whether a destination is the outside
abbrev pub is_exit : ℤ → Bool
is_exit (pos line) = false
is_exit (negsuc n) = true

-- a branch with its hits
abbrev pub entry_of : Branch × ℕ → Entry
entry_of (branch, hits) = (branch.0, is_exit branch.1, branch.1, hits)

-- by line, then jumps to lines before exits, then by destination
abbrev pub entry_cmp : Entry → Entry → Ordering
entry_cmp a b =
    let by_line = nat_cmp a.0 b.0 in
    let by_exit = ordering_then by_line (bool_cmp a.1 b.1) in
    ordering_then (ordering_then by_exit (int_cmp a.2 b.2)) (nat_cmp a.3 b.3)

-- the branches in that order
abbrev pub entries_of : AnalysisView → List Entry
entries_of file = fold (insert_key entry_cmp) [] (map entry_of (zip file.branches file.branch_hits))

-- whether a branch is missing
abbrev pub is_missing : AnalysisView → Branch → Bool
is_missing file branch = list_any (same_branch branch) file.missing_branches

-- whether one of the branches of a line isn't missing
abbrev pub leaves_covered : (Branch → Bool) → List Branch → ℕ → Bool
leaves_covered missing branches line =
    list_any (λ branch. nat_eq line branch.0 && not (missing branch)) branches

-- the hits of a covered branch, 0 of a missing one whose line has a covered one, and else a dash
abbrev pub taken_text : (Branch → Bool) → (ℕ → Bool) → Branch → ℕ → List ℕ
taken_text missing has_covered branch hits =
    if missing branch then if has_covered branch.0 then codes "0" else codes "-" else decimal hits

-- where a branch leads
abbrev pub destination_text : ℤ → List ℕ
destination_text (pos line) = codes "jump to line " ++ decimal line
destination_text (negsuc n) = codes "exit"

-- a branch, and whether it was taken
abbrev pub branch_row : (Branch → Bool) → (ℕ → Bool) → Entry → List ℕ
branch_row missing has_covered (line, exit, to, hits) =
    codes "BRDA:" ++ (decimal line ++ (codes ",0," ++ (destination_text to
    ++ (codes "," ++ (taken_text missing has_covered (line, to) hits ++ codes "\n")))))

-- the rows of the branches of a file
abbrev pub branch_rows : AnalysisView → List ℕ
branch_rows file =
    let missing = is_missing file in
    flat_map (branch_row missing (leaves_covered missing file.branches)) (entries_of file)

-- the branches, how many there are, and how many are covered
abbrev pub branch_part : AnalysisView → List ℕ
branch_part file =
    let n = file.numbers in
    branch_rows file ++ (codes "BRF:" ++ (decimal n.branches
    ++ (codes "\nBRH:" ++ (decimal (n.branches - n.missing_branches) ++ codes "\n"))))

-- the rows of its statements
abbrev pub statement_rows : AnalysisView → List ℕ
statement_rows file = flat_map statement_row (zip file.statements file.hits)

-- the statements, how many there are, and how many were executed. Line data have no branches
abbrev pub file_bytes : Bool → AnalysisView → List ℕ
file_bytes arcs file =
    let n = file.numbers in
    codes "SF:" ++ (file.path ++ (codes "\n" ++ (statement_rows file ++ (codes "LF:"
    ++ (decimal n.statements ++ (codes "\nLH:" ++ (decimal (n.statements - n.missing)
    ++ (codes "\n" ++ ((if arcs then branch_part file else []) ++ codes "end_of_record\n")))))))))

-- the records of the files, in the order in which they are given
abbrev pub lcov_bytes : List AnalysisView → Bool → List ℕ
lcov_bytes files arcs = flat_map (file_bytes arcs) files
