-- Analyses, computed.
use Rattle.std.proofs.Common.{◌≡◌, ℕ, ℤ, Bool, true, false, List, [], ◌∷◌, pos, negsuc, refl}
use Rattle.cov_data.specs.Rows.{RowView}
use Rattle.cov_analysis.specs.Hits.{line_count, is_taken, branch_count}
use Rattle.cov_analysis.specs.Analyses.{Source, Taken, analysis_of}

abbrev row : ℤ → ℤ → ℕ → RowView
row from to count = record { path = []; context = []; from = from; to = to; count = count }

abbrev exit : ℤ
exit = negsuc 0

abbrev taken : Bool → List ℕ → List RowView → Taken
taken arcs executed rows = record { arcs = arcs; executed = executed; line_count = line_count rows; is_taken = is_taken rows; branch_count = branch_count rows }

-- Report of it
--  1  x = 1
--  2  if x:
--  3      print(x)
--  4  else:
--  5      print(0)
abbrev first_run : Source
first_run = record {
  lines = 1 ∷ 2 ∷ 3 ∷ 5 ∷ [];
  excluded = [];
  no_branch = [];
  arcs = (exit, pos 1) ∷ (pos 1, pos 2) ∷ (pos 2, pos 3) ∷ (pos 2, pos 5) ∷ (pos 3, exit) ∷ (pos 5, exit) ∷ [];
}

report_of_it : analysis_of [] first_run (taken true (1 ∷ 2 ∷ 3 ∷ []) (row exit (pos 1) 1 ∷ row (pos 1) (pos 2) 1 ∷ row (pos 2) (pos 3) 1 ∷ row (pos 3) exit 1 ∷ []))
    ≡ record {
      path = [];
      statements = 1 ∷ 2 ∷ 3 ∷ 5 ∷ [];
      excluded = [];
      missing = 5 ∷ [];
      branches = (2, pos 3) ∷ (2, pos 5) ∷ [];
      missing_branches = (2, pos 5) ∷ [];
      hits = 1 ∷ 1 ∷ 1 ∷ 0 ∷ [];
      branch_hits = 1 ∷ 0 ∷ [];
      numbers = record { statements = 4; missing = 1; excluded = 0; branches = 2; missing_branches = 1; partial = 1 };
    }
report_of_it = refl

-- the same with data of lines
lines_alone : analysis_of [] first_run (taken false (1 ∷ 2 ∷ 3 ∷ []) (row (pos 1) (pos 1) 1 ∷ row (pos 2) (pos 2) 7 ∷ row (pos 3) (pos 3) 1 ∷ []))
    ≡ record {
      path = [];
      statements = 1 ∷ 2 ∷ 3 ∷ 5 ∷ [];
      excluded = [];
      missing = 5 ∷ [];
      branches = [];
      missing_branches = [];
      hits = 1 ∷ 7 ∷ 1 ∷ 0 ∷ [];
      branch_hits = [];
      numbers = record { statements = 4; missing = 1; excluded = 0; branches = 0; missing_branches = 0; partial = 0 };
    }
lines_alone = refl

-- the same without a row, and where line 2 needn't take all of its branches
never_run : analysis_of [] first_run (taken true [] [])
    ≡ record {
      path = [];
      statements = 1 ∷ 2 ∷ 3 ∷ 5 ∷ [];
      excluded = [];
      missing = 1 ∷ 2 ∷ 3 ∷ 5 ∷ [];
      branches = (2, pos 3) ∷ (2, pos 5) ∷ [];
      missing_branches = (2, pos 3) ∷ (2, pos 5) ∷ [];
      hits = 0 ∷ 0 ∷ 0 ∷ 0 ∷ [];
      branch_hits = 0 ∷ 0 ∷ [];
      numbers = record { statements = 4; missing = 4; excluded = 0; branches = 2; missing_branches = 2; partial = 0 };
    }
never_run = refl

no_branch_line : analysis_of [] (record first_run { no_branch = 2 ∷ [] }) (taken true (1 ∷ 2 ∷ 3 ∷ []) (row (pos 1) (pos 2) 1 ∷ row (pos 2) (pos 3) 5 ∷ []))
    ≡ record {
      path = [];
      statements = 1 ∷ 2 ∷ 3 ∷ 5 ∷ [];
      excluded = [];
      missing = 5 ∷ [];
      branches = (2, pos 3) ∷ (2, pos 5) ∷ [];
      missing_branches = [];
      hits = 1 ∷ 1 ∷ 5 ∷ 0 ∷ [];
      branch_hits = 5 ∷ 1 ∷ [];
      numbers = record { statements = 4; missing = 1; excluded = 0; branches = 2; missing_branches = 0; partial = 0 };
    }
no_branch_line = refl

-- Pragma
--  1  debug = False
--  2  if debug:  # pragma: no cover
--  3      print(1)
--  4  else:
--  5      print(2)
--  6  while True:
--  7      break
pragma : analysis_of [] (record {
  lines = 1 ∷ 2 ∷ 3 ∷ 5 ∷ 6 ∷ 7 ∷ [];
  excluded = 2 ∷ 3 ∷ [];
  no_branch = 6 ∷ [];
  arcs = (exit, pos 1) ∷ (pos 1, pos 2) ∷ (pos 2, pos 3) ∷ (pos 2, pos 5) ∷ (pos 3, pos 6) ∷ (pos 5, pos 6) ∷ (pos 6, pos 7) ∷ (pos 7, exit) ∷ [];
}) (taken true (1 ∷ 2 ∷ 5 ∷ 6 ∷ 7 ∷ []) (row exit (pos 1) 1 ∷ row (pos 1) (pos 2) 1 ∷ row (pos 2) (pos 5) 1 ∷ row (pos 5) (pos 6) 1 ∷ row (pos 6) (pos 7) 1 ∷ row (pos 7) exit 1 ∷ []))
    ≡ record {
      path = [];
      statements = 1 ∷ 5 ∷ 6 ∷ 7 ∷ [];
      excluded = 2 ∷ 3 ∷ [];
      missing = [];
      branches = [];
      missing_branches = [];
      hits = 1 ∷ 1 ∷ 1 ∷ 1 ∷ [];
      branch_hits = [];
      numbers = record { statements = 4; missing = 0; excluded = 2; branches = 0; missing_branches = 0; partial = 0 };
    }
pragma = refl

-- Handlers
--  1  try:
--  2      x = 1 // 0
--  3  except KeyError:
--  4      print(1)
--  5  except ZeroDivisionError:
--  6      print(2)
--  7  print(3)
handlers : analysis_of [] (record {
  lines = 1 ∷ 2 ∷ 3 ∷ 4 ∷ 5 ∷ 6 ∷ 7 ∷ [];
  excluded = [];
  no_branch = [];
  arcs = (exit, pos 1) ∷ (pos 1, pos 2) ∷ (pos 2, pos 7) ∷ (pos 3, pos 4) ∷ (pos 3, pos 5) ∷ (pos 4, pos 7) ∷ (pos 5, pos 6) ∷ (pos 6, pos 7) ∷ (pos 7, exit) ∷ [];
}) (taken true (1 ∷ 2 ∷ 3 ∷ 5 ∷ 6 ∷ 7 ∷ []) (row exit (pos 1) 1 ∷ row (pos 1) (pos 2) 1 ∷ row (pos 2) (pos 3) 1 ∷ row (pos 3) (pos 5) 1 ∷ row (pos 5) (pos 6) 1 ∷ row (pos 6) (pos 7) 1 ∷ row (pos 7) exit 1 ∷ []))
    ≡ record {
      path = [];
      statements = 1 ∷ 2 ∷ 3 ∷ 4 ∷ 5 ∷ 6 ∷ 7 ∷ [];
      excluded = [];
      missing = 4 ∷ [];
      branches = (3, pos 4) ∷ (3, pos 5) ∷ [];
      missing_branches = (3, pos 4) ∷ [];
      hits = 1 ∷ 1 ∷ 1 ∷ 0 ∷ 1 ∷ 1 ∷ 1 ∷ [];
      branch_hits = 0 ∷ 1 ∷ [];
      numbers = record { statements = 7; missing = 1; excluded = 0; branches = 2; missing_branches = 1; partial = 1 };
    }
handlers = refl

-- Counts of a one-line loop, of two contexts
--  1  n = 3
--  2  while n: n = n - 1
counts : analysis_of [] (record {
  lines = 1 ∷ 2 ∷ [];
  excluded = [];
  no_branch = [];
  arcs = (exit, pos 1) ∷ (pos 1, pos 2) ∷ (pos 2, exit) ∷ (pos 2, pos 2) ∷ [];
}) (taken true (1 ∷ 2 ∷ []) (row exit (pos 1) 1 ∷ row (pos 1) (pos 2) 1 ∷ row (pos 2) exit 1 ∷ row (pos 2) (pos 2) 2 ∷ row (pos 2) (pos 2) 1 ∷ []))
    ≡ record {
      path = [];
      statements = 1 ∷ 2 ∷ [];
      excluded = [];
      missing = [];
      branches = (2, exit) ∷ (2, pos 2) ∷ [];
      missing_branches = [];
      hits = 1 ∷ 4 ∷ [];
      branch_hits = 1 ∷ 3 ∷ [];
      numbers = record { statements = 2; missing = 0; excluded = 0; branches = 2; missing_branches = 0; partial = 0 };
    }
counts = refl
