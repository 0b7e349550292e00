-- What a report tells of one source. (coverage.py documentation, "Coverage summary")
--     Source, source_of               what the text of a source tells
--     Taken, taken_of                 what runs took of it, by data
--     AnalysisView, analysis_view     an analysis as lists
--     analysis_of                     the analysis of a source and what runs took of it
--     IsInOrder                       lists that rise
--     IsReportable, AreReportable     what reports ask of an analysis; of each of several
--     ReportsLaw                      such analyses are what each report asks for
use Rattle.std.specs.Prelude.{◌≡◌, ℕ, Bool, if◌then◌else◌, List, [], length, map, string_bytes, All}
use Rattle.std.specs.List.{count_by}
use Rattle.std.specs.List.Sorted.{IsStrictlySortedBy}
use Rattle.py_syntax.specs.Marks.{statement_lines}
use Rattle.py_syntax.specs.Prediction.{Arc, predicted}
use Rattle.py_syntax.specs.Tree.{Stmts}
use Rattle.cov_data.specs.DataSet.{DataSet, file_of}
use Rattle.cov_data.specs.Rows.{lines_of, file_rows}
use Rattle.cov_exclude.specs.Sources.{excluded_in, no_branch_in}
use Rattle.cov_exclude.specs.Touched.{IsRising}
use Rattle.cov_analysis.specs.Lines.{is_among, without}
use Rattle.cov_analysis.specs.Counts.{IsCounted, numbers_of}
use Rattle.cov_analysis.specs.Branches.{Branch, branch_cmp, branches_of, missing_branches_of}
use Rattle.cov_analysis.specs.Hits.{line_count, is_taken, branch_count, line_hits, branch_hits}
use Rattle.cov_analysis.specs.declared.analysis.Analysis.{Analysis}
use Rattle.cov_analysis.specs.declared.numbers.Numbers.{Numbers}

-- the statement lines of a source, those that are excluded, those that needn't take all of their
-- branches, and the predicted arcs
pub record Source : Type 0 where
  pub lines : List ℕ
  pub excluded : List ℕ
  pub no_branch : List ℕ
  pub arcs : List Arc

-- of a module with this text, by the texts of the patterns that exclude a line, and of those that
-- free its branches
abbrev pub source_of : List (List ℕ) → List (List ℕ) → Stmts → List ℕ → Source
source_of exclude partial m text = record {
  lines = statement_lines m;
  excluded = excluded_in exclude m text;
  no_branch = no_branch_in partial m text;
  arcs = predicted m;
}

-- what runs took of it: whether arcs were recorded, the executed lines, how often rows go to a
-- line, which branches rows take, and how often
pub record Taken : Type 0 where
  pub arcs : Bool
  pub executed : List ℕ
  pub line_count : ℕ → ℕ
  pub is_taken : Branch → Bool
  pub branch_count : Branch → ℕ

-- by the rows of a path
abbrev pub taken_of : DataSet → List ℕ → Taken
taken_of d path = record {
  arcs = d.arcs;
  executed = lines_of d path;
  line_count = line_count (file_rows path (file_of d path));
  is_taken = is_taken (file_rows path (file_of d path));
  branch_count = branch_count (file_rows path (file_of d path));
}

-- an analysis as lists and functions
pub record AnalysisView : Type 0 where
  pub path : List ℕ
  pub statements : List ℕ
  pub excluded : List ℕ
  pub missing : List ℕ
  pub branches : List Branch
  pub missing_branches : List Branch
  pub hits : List ℕ
  pub branch_hits : List ℕ
  pub numbers : Numbers

-- an analysis in memory as such
abbrev pub analysis_view : Analysis → AnalysisView
analysis_view a = record {
  path = string_bytes a.path;
  statements = a.statements.items;
  excluded = a.excluded.items;
  missing = a.missing.items;
  branches = a.branches.items;
  missing_branches = a.missing_branches.items;
  hits = a.hits.items;
  branch_hits = a.branch_hits.items;
  numbers = a.numbers;
}

-- the statements: the statement lines that aren't excluded
abbrev pub statements_in : Source → List ℕ
statements_in source = without source.lines source.excluded

-- those of them that no run executed
abbrev pub missing_in : Source → Taken → List ℕ
missing_in source taken = without (statements_in source) taken.executed

-- line data tell nothing of branches
abbrev pub branches_in : Source → Taken → List Branch
branches_in source taken = if taken.arcs then branches_of source.excluded source.arcs else []

-- the branches that count as missing
abbrev pub missing_branches_in : Source → Taken → List Branch
missing_branches_in source taken =
    missing_branches_of source.no_branch taken.is_taken (branches_in source taken)

-- the missing branches of executed lines
abbrev pub partial_in : Source → Taken → ℕ
partial_in source taken =
    count_by (λ branch. is_among taken.executed branch.0) (missing_branches_in source taken)

-- the numbers of an analysis
abbrev pub numbers_in : Source → Taken → Numbers
numbers_in source taken = record {
  statements = length (statements_in source);
  missing = length (missing_in source taken);
  excluded = length source.excluded;
  branches = length (branches_in source taken);
  missing_branches = length (missing_branches_in source taken);
  partial = partial_in source taken;
}

-- of the source at a path
abbrev pub analysis_of : List ℕ → Source → Taken → AnalysisView
analysis_of path source taken = record {
  path = path;
  statements = statements_in source;
  excluded = source.excluded;
  missing = missing_in source taken;
  branches = branches_in source taken;
  missing_branches = missing_branches_in source taken;
  hits = map (line_hits taken.executed taken.line_count) (statements_in source);
  branch_hits =
      map (branch_hits source.no_branch taken.is_taken taken.branch_count)
      (branches_in source taken);
  numbers = numbers_in source taken;
}

-- all lists but the hits rise
pub record IsInOrder (a : AnalysisView) : Type 0 where
  pub statements : IsRising a.statements
  pub excluded : IsRising a.excluded
  pub missing : IsRising a.missing
  pub branches : IsStrictlySortedBy branch_cmp a.branches
  pub missing_branches : IsStrictlySortedBy branch_cmp a.missing_branches

-- possible numbers, with hits for each statement and for each branch
pub record IsReportable (a : AnalysisView) : Type 0 where
  pub numbers : IsCounted a.numbers
  pub hits : length a.hits ≡ length a.statements
  pub branch_hits : length a.branch_hits ≡ length a.branches

-- and of each of several analyses
abbrev pub AreReportable : List Analysis → Type 0
AreReportable files = All (λ file. IsReportable (analysis_view file)) files

-- Reports ask it in two forms: some of the numbers of each file, others of the views of the files.
abbrev pub ReportsLaw : Type 0
ReportsLaw =
    (files : List Analysis) → AreReportable files
    → All (λ file. IsCounted (numbers_of file)) files × All IsReportable (map analysis_view files)
