-- The JSON report. (coverage.py documentation, "JSON reporting"; RFC 8259; which keys stand, and
-- their order, are this project's)
--     whole, lines, branches              a number, lines, and branches as pairs of numbers
--     executed_lines, executed_branches   those that aren't missing
--     branch_member                       a member that stands for arcs alone
--     summary, file_value, files_value    the objects of numbers, of a file and of all files
--     meta, report                        the value of a report
--     json_bytes                          its compact text
use Rattle.std.specs.Prelude.{ℕ, ◌-◌, Bool, not, if◌then◌else◌, List, map, filter, fold, codes, decimal}
use Rattle.std.specs.List.{list_any}
use Rattle.serde_json.specs.Data.{Data, number, unsigned, boolean, string, array, object, item, no_items, Members, member, no_members, put}
use Rattle.serde_json.specs.Find.{of_integer}
use Rattle.serde_json.specs.View.{items_of}
use Rattle.serde_json.specs.Written.{compact_text}
use Rattle.cov_analysis.specs.Analyses.{AnalysisView}
use Rattle.cov_analysis.specs.Branches.{Branch, same_branch}
use Rattle.cov_analysis.specs.Counts.{total_of}
use Rattle.cov_analysis.specs.Lines.{without}
use Rattle.cov_analysis.specs.Percentage.{percent}
use Rattle.cov_analysis.specs.declared.numbers.Numbers.{Numbers}

-- a whole number as a number of JSON
abbrev pub whole : ℕ → Data
whole n = number (unsigned n)

-- lines as numbers
abbrev pub lines : List ℕ → Data
lines all = array (items_of (map whole all))

-- a line and what comes next, negative where the branch leaves a function or a module
abbrev pub branch : Branch → Data
branch (line, to) = array (item (whole line) (item (number (of_integer to)) no_items))

-- branches, each as its two numbers
abbrev pub branches : List Branch → Data
branches all = array (items_of (map branch all))

-- the statements that aren't missing
abbrev pub executed_lines : AnalysisView → List ℕ
executed_lines file = without file.statements file.missing

-- the branches that aren't missing
abbrev pub executed_branches : AnalysisView → List Branch
executed_branches file =
    filter (λ b. not (list_any (same_branch b) file.missing_branches)) file.branches

-- a member that is absent for data of lines, which tell nothing of branches
abbrev pub branch_member : Bool → List ℕ → Data → Members → Members
branch_member arcs key value rest = if arcs then member key value rest else rest

-- the numbers of a file or of all. The keys stand in the order of their bytes
abbrev pub summary : Bool → Numbers → Data
summary arcs n = object
    (branch_member arcs (codes "covered_branches") (whole (n.branches - n.missing_branches))
    (member (codes "covered_lines") (whole (n.statements - n.missing))
    (member (codes "excluded_lines") (whole n.excluded)
    (branch_member arcs (codes "missing_branches") (whole n.missing_branches)
    (member (codes "missing_lines") (whole n.missing)
    (branch_member arcs (codes "num_branches") (whole n.branches)
    (branch_member arcs (codes "num_partial_branches") (whole n.partial)
    (member (codes "num_statements") (whole n.statements)
    (member (codes "percent_covered_display") (string (decimal (percent n))) no_members)))))))))

-- the object of a file
abbrev pub file_value : Bool → AnalysisView → Data
file_value arcs file = object
    (member (codes "excluded_lines") (lines file.excluded)
    (branch_member arcs (codes "executed_branches") (branches (executed_branches file))
    (member (codes "executed_lines") (lines (executed_lines file))
    (branch_member arcs (codes "missing_branches") (branches file.missing_branches)
    (member (codes "missing_lines") (lines file.missing)
    (member (codes "summary") (summary arcs file.numbers) no_members))))))

-- A file stands at its path. `put` keeps the keys in the order of their bytes, and of two files of
-- one path the later stands.
abbrev pub with_file : Bool → Members → AnalysisView → Members
with_file arcs members file = put file.path (file_value arcs file) members

-- the object of all files
abbrev pub files_value : Bool → List AnalysisView → Data
files_value arcs files = object (fold (with_file arcs) no_members files)

-- whether the data are of arcs
abbrev pub meta : Bool → Data
meta arcs = object (member (codes "branch_coverage") (boolean arcs) no_members)

-- the value of a report
abbrev pub report : List AnalysisView → Bool → Data
report files arcs = object
    (member (codes "files") (files_value arcs files)
    (member (codes "meta") (meta arcs)
    (member (codes "totals") (summary arcs (total_of (map (λ file. file.numbers) files)))
    no_members)))

-- the text with no blank and no line end
abbrev pub json_bytes : List AnalysisView → Bool → List ℕ
json_bytes files arcs = compact_text (report files arcs)
