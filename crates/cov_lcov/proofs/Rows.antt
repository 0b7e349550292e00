-- Reports and annotated texts, computed.
use Rattle.std.proofs.Common.{◌≡◌, ℤ, true, false, [], ◌∷◌, pos, negsuc, codes, refl}
use Rattle.cov_analysis.specs.Analyses.{AnalysisView}
use Rattle.cov_lcov.specs.Annotated.{annotated_bytes}
use Rattle.cov_lcov.specs.Lcov.{lcov_bytes}

abbrev exit : ℤ
exit = negsuc 0

-- Report of it
--  1  x = 1
--  2  if x:
--  3      print(x)
--  4  else:
--  5      print(0)
abbrev first_run : AnalysisView
first_run = record {
  path = codes "a.py";
  statements = 1 ∷ 2 ∷ 3 ∷ 5 ∷ [];
  excluded = [];
  missing = 5 ∷ [];
  branches = (2, pos 3) ∷ (2, pos 5) ∷ [];
  missing_branches = (2, pos 5) ∷ [];
  hits = 1 ∷ 1 ∷ 1 ∷ 0 ∷ [];
  branch_hits = 1 ∷ 0 ∷ [];
  numbers = record { statements = 4; missing = 1; excluded = 0; branches = 2; missing_branches = 1; partial = 1 };
}

report_of_it : lcov_bytes (first_run ∷ []) true
    ≡ codes "SF:a.py\nDA:1,1\nDA:2,1\nDA:3,1\nDA:5,0\nLF:4\nLH:3\nBRDA:2,0,jump to line 3,1\nBRDA:2,0,jump to line 5,0\nBRF:2\nBRH:1\nend_of_record\n"
unfolding Rattle.std.specs.Fmt.digits
report_of_it = refl

annotated_run : annotated_bytes first_run (codes "x = 1\nif x:\n    print(x)\nelse:\n    print(0)\n") ≡ codes "> x = 1\n> if x:\n>     print(x)\n  else:\n!     print(0)\n"
annotated_run = refl

-- the same with data of lines
lines_alone : lcov_bytes (record first_run { branches = []; missing_branches = []; branch_hits = [] } ∷ []) false ≡ codes "SF:a.py\nDA:1,1\nDA:2,1\nDA:3,1\nDA:5,0\nLF:4\nLH:3\nend_of_record\n"
unfolding Rattle.std.specs.Fmt.digits
lines_alone = refl

-- the same without a row of data
never_run : lcov_bytes (record first_run {
  missing = 1 ∷ 2 ∷ 3 ∷ 5 ∷ [];
  missing_branches = (2, pos 3) ∷ (2, pos 5) ∷ [];
  hits = 0 ∷ 0 ∷ 0 ∷ 0 ∷ [];
  branch_hits = 0 ∷ 0 ∷ [];
  numbers = record { statements = 4; missing = 4; excluded = 0; branches = 2; missing_branches = 2; partial = 0 };
} ∷ []) true
    ≡ codes "SF:a.py\nDA:1,0\nDA:2,0\nDA:3,0\nDA:5,0\nLF:4\nLH:0\nBRDA:2,0,jump to line 3,-\nBRDA:2,0,jump to line 5,-\nBRF:2\nBRH:0\nend_of_record\n"
unfolding Rattle.std.specs.Fmt.digits
never_run = refl

-- Counts of a one-line loop, and of it after another file
--  1  n = 3
--  2  while n: n = n - 1
abbrev one_line_loop : AnalysisView
one_line_loop = record {
  path = codes "n.py";
  statements = 1 ∷ 2 ∷ [];
  excluded = [];
  missing = [];
  branches = (2, exit) ∷ (2, pos 2) ∷ [];
  missing_branches = [];
  hits = 1 ∷ 4 ∷ [];
  branch_hits = 1 ∷ 3 ∷ [];
  numbers = record { statements = 2; missing = 0; excluded = 0; branches = 2; missing_branches = 0; partial = 0 };
}

counts : lcov_bytes (one_line_loop ∷ []) true ≡ codes "SF:n.py\nDA:1,1\nDA:2,4\nLF:2\nLH:2\nBRDA:2,0,jump to line 2,3\nBRDA:2,0,exit,1\nBRF:2\nBRH:2\nend_of_record\n"
unfolding Rattle.std.specs.Fmt.digits
counts = refl

counts_of_two_runs : lcov_bytes (record one_line_loop { hits = 2 ∷ 8 ∷ []; branch_hits = 2 ∷ 6 ∷ [] } ∷ []) true
    ≡ codes "SF:n.py\nDA:1,2\nDA:2,8\nLF:2\nLH:2\nBRDA:2,0,jump to line 2,6\nBRDA:2,0,exit,2\nBRF:2\nBRH:2\nend_of_record\n"
unfolding Rattle.std.specs.Fmt.digits
counts_of_two_runs = refl

two_files : lcov_bytes (record first_run { branches = []; missing_branches = []; branch_hits = [] } ∷ one_line_loop ∷ []) false
    ≡ codes "SF:a.py\nDA:1,1\nDA:2,1\nDA:3,1\nDA:5,0\nLF:4\nLH:3\nend_of_record\nSF:n.py\nDA:1,1\nDA:2,4\nLF:2\nLH:2\nend_of_record\n"
unfolding Rattle.std.specs.Fmt.digits
two_files = refl

-- two branches of one line that lead out, one of them missing, between two that lead to lines
both_ways : lcov_bytes (record one_line_loop {
  branches = (1, pos 2) ∷ (2, negsuc 1) ∷ (2, exit) ∷ (2, pos 9) ∷ (2, pos 10) ∷ [];
  missing_branches = (2, negsuc 1) ∷ [];
  branch_hits = 1 ∷ 0 ∷ 1 ∷ 3 ∷ 4 ∷ [];
  numbers = record { statements = 2; missing = 0; excluded = 0; branches = 5; missing_branches = 1; partial = 1 };
} ∷ []) true
    ≡ codes "SF:n.py\nDA:1,1\nDA:2,4\nLF:2\nLH:2\nBRDA:1,0,jump to line 2,1\nBRDA:2,0,jump to line 9,3\nBRDA:2,0,jump to line 10,4\nBRDA:2,0,exit,0\nBRDA:2,0,exit,1\nBRF:5\nBRH:4\nend_of_record\n"
unfolding Rattle.std.specs.Fmt.digits
both_ways = refl

-- Pragma
abbrev pragma : AnalysisView
pragma = record {
  path = codes "p.py";
  statements = 1 ∷ 5 ∷ 6 ∷ 7 ∷ [];
  excluded = 2 ∷ 3 ∷ [];
  missing = [];
  branches = [];
  missing_branches = [];
  hits = 1 ∷ 1 ∷ 1 ∷ 1 ∷ [];
  branch_hits = [];
  numbers = record { statements = 4; missing = 0; excluded = 2; branches = 0; missing_branches = 0; partial = 0 };
}

excluded_lines : annotated_bytes pragma (codes "debug = False\nif debug:  # pragma: no cover\n    print(1)\nelse:\n    print(2)\nwhile True:\n    break\n")
    ≡ codes "> debug = False\n- if debug:  # pragma: no cover\n-     print(1)\n  else:\n>     print(2)\n> while True:\n>     break\n"
excluded_lines = refl

-- other line ends, an empty line, and no end of the last line
line_ends : annotated_bytes one_line_loop (codes "n = 3\r\nwhile n: n = n - 1\r\n\n# end") ≡ codes "> n = 3\n> while n: n = n - 1\n  \n  # end\n"
line_ends = refl

no_line : annotated_bytes one_line_loop [] ≡ []
no_line = refl
