-- Reports, computed.
use Rattle.std.proofs.Common.{◌≡◌, ℕ, true, false, List, [], ◌∷◌, pos, negsuc, codes, refl}
use Rattle.std.specs.Str.{chars}
use Rattle.std.specs.Fmt.{digits}
use Rattle.cov_analysis.specs.Analyses.{AnalysisView}
use Rattle.cov_analysis.specs.Branches.{Branch}
use Rattle.cov_text.specs.Missing.{missing_text}
use Rattle.cov_text.specs.Report.{file_row, text_bytes}

-- of a.py: line 5 never ran
abbrev first_run : AnalysisView
first_run = record {
  path = codes "a.py";
  statements = 1 ∷ 2 ∷ 3 ∷ 5 ∷ [];
  excluded = [];
  missing = 5 ∷ [];
  branches = (2, pos 3) ∷ (2, pos 5) ∷ [];
  missing_branches = (2, pos 5) ∷ [];
  hits = 1 ∷ 1 ∷ 1 ∷ 0 ∷ [];
  branch_hits = 1 ∷ 0 ∷ [];
  numbers = record { statements = 4; missing = 1; excluded = 0; branches = 2; missing_branches = 1; partial = 1 };
}

-- "Report of it"
report_of_it : text_bytes (first_run ∷ []) true true
    ≡ codes "Name    Stmts   Miss Branch BrPart  Cover   Missing\n---------------------------------------------------\na.py        4      1      2      1    67%   5\n---------------------------------------------------\nTOTAL       4      1      2      1    67%\n"
unfolding chars digits
report_of_it = refl

abbrev calc : AnalysisView
calc = record {
  path = codes "calc.py";
  statements = 1 ∷ 2 ∷ 3 ∷ 4 ∷ 6 ∷ 7 ∷ [];
  excluded = [];
  missing = 3 ∷ 7 ∷ [];
  branches = (2, pos 3) ∷ (2, pos 4) ∷ [];
  missing_branches = (2, pos 3) ∷ [];
  hits = 1 ∷ 1 ∷ 0 ∷ 1 ∷ 1 ∷ 0 ∷ [];
  branch_hits = 0 ∷ 1 ∷ [];
  numbers = record { statements = 6; missing = 2; excluded = 0; branches = 2; missing_branches = 1; partial = 1 };
}

abbrev test_calc : AnalysisView
test_calc = record {
  path = codes "test_calc.py";
  statements = 1 ∷ 3 ∷ 4 ∷ 6 ∷ 7 ∷ 8 ∷ [];
  excluded = [];
  missing = [];
  branches = (6, negsuc 0) ∷ (6, pos 7) ∷ [];
  missing_branches = (6, negsuc 0) ∷ [];
  hits = 1 ∷ 1 ∷ 1 ∷ 1 ∷ 1 ∷ 1 ∷ [];
  branch_hits = 0 ∷ 1 ∷ [];
  numbers = record { statements = 6; missing = 0; excluded = 0; branches = 2; missing_branches = 1; partial = 1 };
}

-- "Ordinary use"
ordinary_use : text_bytes (calc ∷ test_calc ∷ []) true true
    ≡ codes "Name           Stmts   Miss Branch BrPart  Cover   Missing\n----------------------------------------------------------\ncalc.py            6      2      2      1    62%   3, 7\ntest_calc.py       6      0      2      1    88%   6->exit\n----------------------------------------------------------\nTOTAL             12      2      4      2    75%\n"
unfolding chars digits
ordinary_use = refl

-- "Numbers": data of lines
abbrev lines_alone : AnalysisView
lines_alone = record {
  path = codes "b.py";
  statements = 1 ∷ 2 ∷ 3 ∷ [];
  excluded = [];
  missing = 3 ∷ [];
  branches = [];
  missing_branches = [];
  hits = 1 ∷ 1 ∷ 0 ∷ [];
  branch_hits = [];
  numbers = record { statements = 3; missing = 1; excluded = 0; branches = 0; missing_branches = 0; partial = 0 };
}

numbers_of_lines : text_bytes (lines_alone ∷ []) false false
    ≡ codes "Name    Stmts   Miss  Cover\n---------------------------\nb.py        3      1    67%\n---------------------------\nTOTAL       3      1    67%\n"
unfolding chars digits
numbers_of_lines = refl

-- "Empty file"
abbrev empty : AnalysisView
empty = record first_run {
  path = codes "e.py";
  statements = [];
  missing = [];
  missing_branches = [];
  numbers = record { statements = 0; missing = 0; excluded = 0; branches = 0; missing_branches = 0; partial = 0 };
}

empty_file : file_row 6 true true empty ≡ codes "e.py        0      0      0      0   100%\n"
unfolding chars digits
empty_file = refl

-- "Handlers": the clause of line 3 didn't match
abbrev handled : AnalysisView
handled = record first_run {
  path = codes "t.py";
  statements = 1 ∷ 2 ∷ 3 ∷ 4 ∷ 5 ∷ 6 ∷ 7 ∷ [];
  missing = 4 ∷ [];
  missing_branches = (3, pos 4) ∷ [];
  numbers = record { statements = 7; missing = 1; excluded = 0; branches = 2; missing_branches = 1; partial = 1 };
}

handlers : file_row 6 true true handled ≡ codes "t.py        7      1      2      1    78%   4\n"
unfolding chars digits
handlers = refl

-- "Pragma": lines 2 and 3 are excluded
abbrev freed : AnalysisView
freed = record first_run {
  path = codes "p.py";
  statements = 1 ∷ 5 ∷ 6 ∷ 7 ∷ [];
  missing = [];
  missing_branches = [];
  numbers = record { statements = 4; missing = 0; excluded = 2; branches = 0; missing_branches = 0; partial = 0 };
}

pragma : file_row 6 true true freed ≡ codes "p.py        4      0      0      0   100%\n"
unfolding chars digits
pragma = refl

-- a file with these statements, missing lines and missing branches
abbrev lacking : List ℕ → List ℕ → List Branch → AnalysisView
lacking statements missing branches = record first_run { statements = statements; missing = missing; missing_branches = branches }

-- lines 5 to 11 with lines between them that are no statements, and a branch before them
a_range : missing_text (lacking (1 ∷ 2 ∷ 5 ∷ 6 ∷ 9 ∷ 11 ∷ 12 ∷ []) (5 ∷ 6 ∷ 9 ∷ 11 ∷ []) ((2, pos 5) ∷ (2, pos 12) ∷ [])) ≡ codes "2->12, 5-11"
unfolding digits
a_range = refl

-- a statement that ran between missing ones parts them
parted : missing_text (lacking (1 ∷ 3 ∷ 4 ∷ 5 ∷ []) (3 ∷ 5 ∷ []) []) ≡ codes "3, 5"
unfolding digits
parted = refl

-- two and more branches of one line come by their bytes
by_bytes : missing_text (lacking (2 ∷ 9 ∷ 10 ∷ []) [] ((2, negsuc 0) ∷ (2, pos 9) ∷ (2, pos 10) ∷ [])) ≡ codes "2->10, 2->9, 2->exit"
unfolding digits
by_bytes = refl
