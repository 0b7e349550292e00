-- Worked rows, computed from the trees of their sources to the table of a report: what a run prints
-- is what its modules mean, the jumps are those that they cross, and what is missing is what is
-- predicted and none of these took.
use Rattle.std.proofs.Common.{◌≡◌, ℕ, true, List, [], ◌∷◌, pos, negsuc, refl, ap, ◌∙◌}
use Rattle.std.specs.Prelude.{ℤ, map, codes, fold}
use Rattle.std.specs.BTreeSet.{insert_key}
use Rattle.std.specs.Fmt.{digits}
use Rattle.std.specs.Ordering.{nat_cmp}
use Rattle.std.specs.Str.{chars}
use Rattle.py_meaning.proofs.ExceptionRows.{handlers_source}
use Rattle.py_meaning.proofs.ModuleRows.{ordinary_use_files}
use Rattle.py_meaning.proofs.RunRows.{first_run_source}
use Rattle.py_meaning.proofs.Sources.{runs, printed, alone, program, run_in}
use Rattle.py_meaning.specs.Crossings.{crossings, lines_crossed, lines_thrown}
use Rattle.py_meaning.specs.Loading.{Files, loaded}
use Rattle.py_meaning.specs.Modules.{body_of}
use Rattle.py_syntax.proofs.Sources.{computes}
use Rattle.py_syntax.specs.Tree.{Stmts}
use Rattle.cov_analysis.specs.Analyses.{AnalysisView, Taken, analysis_of, source_of}
use Rattle.cov_analysis.specs.Branches.{Branch}
use Rattle.cov_analysis.specs.Hits.{line_count, is_taken, branch_count}
use Rattle.cov_data.specs.Rows.{RowView, place_lines}
use Rattle.cov_text.specs.Report.{text_bytes}

-- ---- from jumps to a report

-- the rows of jumps, each taken once
abbrev rows_of : List (ℤ × ℤ) → List RowView
rows_of arcs =
    map (λ arc. record { path = []; context = []; from = arc.0; to = arc.1; count = 1 }) arcs

-- their lines, each once and in order
abbrev lines_in : List (ℤ × ℤ) → List ℕ
lines_in arcs = fold (λ lines arc. fold (insert_key nat_cmp) lines (place_lines ([], arc))) [] arcs

-- what they tell
abbrev taken : List (ℤ × ℤ) → Taken
taken arcs = record {
  arcs = true;
  executed = lines_in arcs;
  line_count = line_count (rows_of arcs);
  is_taken = is_taken (rows_of arcs);
  branch_count = branch_count (rows_of arcs);
}

-- the analysis of a source by them, where no line is excluded and no branch is freed
abbrev analysed : List ℕ → Stmts → List (ℤ × ℤ) → AnalysisView
analysed path body arcs = analysis_of path (source_of [] [] body []) (taken arcs)

-- the jumps of a module of a program that runs without further words and input
abbrev crossed : Files → ℕ → List (ℤ × ℤ)
crossed files m = lines_crossed (crossings (loaded (program files)) m (run_in files 200).items)

-- those of them that an exception made
abbrev thrown : Files → ℕ → List (ℤ × ℤ)
thrown files m = lines_thrown (crossings (loaded (program files)) m (run_in files 200).items)

-- the tree of a module
abbrev body_at : Files → ℕ → Stmts
body_at files m = body_of (loaded (program files)) m

-- the table of files
abbrev table : List AnalysisView → List ℕ
table files = text_bytes files true true

-- ---- First run, and the report of it

abbrev first_arcs : List (ℤ × ℤ)
first_arcs = (negsuc 0, pos 1) ∷ (pos 1, pos 2) ∷ (pos 2, pos 3) ∷ (pos 3, negsuc 0) ∷ []

first_prints : (run_in (alone first_run_source) 200).out ≡ printed ("1" ∷ [])
unfolding runs
first_prints = refl

first_crosses : crossed (alone first_run_source) 0 ≡ first_arcs
unfolding runs
first_crosses = refl

abbrev first_found : AnalysisView
first_found = record {
  path = codes "a.py";
  statements = 1 ∷ 2 ∷ 3 ∷ 5 ∷ [];
  excluded = [];
  missing = 5 ∷ [];
  branches = (2, pos 3) ∷ (2, pos 5) ∷ [];
  missing_branches = (2, pos 5) ∷ [];
  hits = 1 ∷ 1 ∷ 1 ∷ 0 ∷ [];
  branch_hits = 1 ∷ 0 ∷ [];
  numbers = record { statements = 4; missing = 1; excluded = 0; branches = 2; missing_branches = 1; partial = 1 };
}

first_analysed : analysed (codes "a.py") first_run_source first_arcs ≡ first_found
unfolding computes
first_analysed = refl

abbrev first_table : List ℕ
first_table = codes "Name    Stmts   Miss Branch BrPart  Cover   Missing\n---------------------------------------------------\na.py        4      1      2      1    67%   5\n---------------------------------------------------\nTOTAL       4      1      2      1    67%\n"

first_printed : table (first_found ∷ []) ≡ first_table
unfolding chars digits
first_printed = refl

-- from the tree to the table
first_report : table (analysed (codes "a.py") first_run_source (crossed (alone first_run_source) 0) ∷ []) ≡ first_table
first_report = ap (λ arcs. table (analysed (codes "a.py") first_run_source arcs ∷ [])) first_crosses ∙ ap (λ a. table (a ∷ [])) first_analysed ∙ first_printed

-- ---- Handlers: the exception of line 2 is caught in line 5

abbrev handlers_arcs : List (ℤ × ℤ)
handlers_arcs = (negsuc 0, pos 1) ∷ (pos 1, pos 2) ∷ (pos 2, pos 3) ∷ (pos 3, pos 5) ∷ (pos 5, pos 6) ∷ (pos 6, pos 7) ∷ (pos 7, negsuc 0) ∷ []

handlers_print : (run_in (alone handlers_source) 200).out ≡ printed ("2" ∷ "3" ∷ [])
unfolding runs
handlers_print = refl

handlers_cross : crossed (alone handlers_source) 0 ≡ handlers_arcs
unfolding runs
handlers_cross = refl

handlers_throw : thrown (alone handlers_source) 0 ≡ (pos 2, pos 3) ∷ []
unfolding runs
handlers_throw = refl

abbrev handlers_found : AnalysisView
handlers_found = record {
  path = codes "t.py";
  statements = 1 ∷ 2 ∷ 3 ∷ 4 ∷ 5 ∷ 6 ∷ 7 ∷ [];
  excluded = [];
  missing = 4 ∷ [];
  branches = (3, pos 4) ∷ (3, pos 5) ∷ [];
  missing_branches = (3, pos 4) ∷ [];
  hits = 1 ∷ 1 ∷ 1 ∷ 0 ∷ 1 ∷ 1 ∷ 1 ∷ [];
  branch_hits = 0 ∷ 1 ∷ [];
  numbers = record { statements = 7; missing = 1; excluded = 0; branches = 2; missing_branches = 1; partial = 1 };
}

handlers_analysed : analysed (codes "t.py") handlers_source handlers_arcs ≡ handlers_found
unfolding computes
handlers_analysed = refl

abbrev handlers_table : List ℕ
handlers_table = codes "Name    Stmts   Miss Branch BrPart  Cover   Missing\n---------------------------------------------------\nt.py        7      1      2      1    78%   4\n---------------------------------------------------\nTOTAL       7      1      2      1    78%\n"

handlers_printed : table (handlers_found ∷ []) ≡ handlers_table
unfolding chars digits
handlers_printed = refl

-- from the tree to the table
handlers_report : table (analysed (codes "t.py") handlers_source (crossed (alone handlers_source) 0) ∷ []) ≡ handlers_table
handlers_report = ap (λ arcs. table (analysed (codes "t.py") handlers_source arcs ∷ [])) handlers_cross ∙ ap (λ a. table (a ∷ [])) handlers_analysed ∙ handlers_printed

-- ---- Ordinary use: a script and the module that it imports

abbrev script_arcs : List (ℤ × ℤ)
script_arcs = (negsuc 2, pos 4) ∷ (negsuc 0, pos 1) ∷ (pos 1, pos 3) ∷ (pos 3, pos 6) ∷ (pos 4, negsuc 2) ∷ (pos 6, pos 7) ∷ (pos 7, pos 8) ∷ (pos 8, negsuc 0) ∷ []

abbrev calc_arcs : List (ℤ × ℤ)
calc_arcs = (negsuc 0, pos 1) ∷ (negsuc 0, pos 2) ∷ (pos 1, pos 6) ∷ (pos 2, pos 4) ∷ (pos 4, negsuc 0) ∷ (pos 6, negsuc 0) ∷ []

use_prints : (run_in ordinary_use_files 200).out ≡ printed ("ok" ∷ [])
unfolding runs
use_prints = refl

script_crosses : crossed ordinary_use_files 0 ≡ script_arcs
unfolding runs
script_crosses = refl

calc_crosses : crossed ordinary_use_files 1 ≡ calc_arcs
unfolding runs
calc_crosses = refl

abbrev calc_found : AnalysisView
calc_found = record {
  path = codes "calc.py";
  statements = 1 ∷ 2 ∷ 3 ∷ 4 ∷ 6 ∷ 7 ∷ [];
  excluded = [];
  missing = 3 ∷ 7 ∷ [];
  branches = (2, pos 3) ∷ (2, pos 4) ∷ [];
  missing_branches = (2, pos 3) ∷ [];
  hits = 1 ∷ 1 ∷ 0 ∷ 1 ∷ 1 ∷ 0 ∷ [];
  branch_hits = 0 ∷ 1 ∷ [];
  numbers = record { statements = 6; missing = 2; excluded = 0; branches = 2; missing_branches = 1; partial = 1 };
}

abbrev script_found : AnalysisView
script_found = record {
  path = codes "test_calc.py";
  statements = 1 ∷ 3 ∷ 4 ∷ 6 ∷ 7 ∷ 8 ∷ [];
  excluded = [];
  missing = [];
  branches = (6, negsuc 0) ∷ (6, pos 7) ∷ [];
  missing_branches = (6, negsuc 0) ∷ [];
  hits = 1 ∷ 1 ∷ 1 ∷ 1 ∷ 1 ∷ 1 ∷ [];
  branch_hits = 0 ∷ 1 ∷ [];
  numbers = record { statements = 6; missing = 0; excluded = 0; branches = 2; missing_branches = 1; partial = 1 };
}

calc_analysed : analysed (codes "calc.py") (body_at ordinary_use_files 1) calc_arcs ≡ calc_found
unfolding runs computes
calc_analysed = refl

script_analysed : analysed (codes "test_calc.py") (body_at ordinary_use_files 0) script_arcs ≡ script_found
unfolding runs computes
script_analysed = refl

abbrev use_table : List ℕ
use_table = codes "Name           Stmts   Miss Branch BrPart  Cover   Missing\n----------------------------------------------------------\ncalc.py            6      2      2      1    62%   3, 7\ntest_calc.py       6      0      2      1    88%   6->exit\n----------------------------------------------------------\nTOTAL             12      2      4      2    75%\n"

use_printed : table (calc_found ∷ script_found ∷ []) ≡ use_table
unfolding chars digits
use_printed = refl

-- from the trees to the table
use_report : table (analysed (codes "calc.py") (body_at ordinary_use_files 1) (crossed ordinary_use_files 1) ∷ analysed (codes "test_calc.py") (body_at ordinary_use_files 0) (crossed ordinary_use_files 0) ∷ []) ≡ use_table
use_report = ap (λ arcs. table (analysed (codes "calc.py") (body_at ordinary_use_files 1) arcs ∷ analysed (codes "test_calc.py") (body_at ordinary_use_files 0) (crossed ordinary_use_files 0) ∷ [])) calc_crosses ∙ ap (λ arcs. table (analysed (codes "calc.py") (body_at ordinary_use_files 1) calc_arcs ∷ analysed (codes "test_calc.py") (body_at ordinary_use_files 0) arcs ∷ [])) script_crosses ∙ ap (λ a. table (a ∷ analysed (codes "test_calc.py") (body_at ordinary_use_files 0) script_arcs ∷ [])) calc_analysed ∙ ap (λ a. table (calc_found ∷ a ∷ [])) script_analysed ∙ use_printed
