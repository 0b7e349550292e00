-- The lines that are excluded. (coverage.py documentation, "Excluding code from coverage.py"; what
-- a header excludes is this project's own)
--     stmts_excluded, kind_excluded  what is excluded of the marks of statements, and the like for
--                                    what stands in them
--     header_excluded                of a header's own marks and its suite
--     body_excluded                  of the body of a module or a function
--     excluded_lines                 the excluded lines of a module, in order
-- `touched` says of two lines whether a matched line lies between them.
use Rattle.std.specs.Prelude.{ℕ, Bool, if◌then◌else◌, List, [], ◌∷◌, ◌++◌}
use Rattle.py_syntax.specs.Functions.{is_docstring}
use Rattle.py_syntax.specs.Marks.{in_order, stmts_marks, function_marks, cases_marks}
use Rattle.py_syntax.specs.Tree.{Stmts, no_stmts, stmt, Suite, suite, OptSuite, no_suite, has_suite, Arms, no_arms, arm, Clauses, no_clauses, clause, Cases, no_cases, case, StmtKind, expr, assign, aug_assign, pass, break, continue, return, raise, assert, global, import, from, if', while, for, try, def, match}
use Rattle.cov_predict.specs.Walk.{header_line}
use Rattle.cov_exclude.specs.Touched.{mark_if, touches}

-- A simple statement is excluded where it is touched from its first to its last line. A touched
-- header of a suite excludes its own mark and its suite, and a touched header of a `def` or a
-- `match` the whole statement. Any other suite is judged on its own.
abbrev mutual
  -- of statements in a row
  pub stmts_excluded : (ℕ → ℕ → Bool) → Stmts → List ℕ
  stmts_excluded touched no_stmts = []
  stmts_excluded touched (stmt first last k e ss) =
      kind_excluded touched first last k ++ stmts_excluded touched ss

  -- of a statement with this first and last line
  pub kind_excluded : (ℕ → ℕ → Bool) → ℕ → ℕ → StmtKind → List ℕ
  kind_excluded touched first last (expr e) = mark_if (touched first last) first
  kind_excluded touched first last (assign ts e) = mark_if (touched first last) first
  kind_excluded touched first last (aug_assign t op e) = mark_if (touched first last) first
  kind_excluded touched first last pass = mark_if (touched first last) first
  kind_excluded touched first last break = mark_if (touched first last) first
  kind_excluded touched first last continue = mark_if (touched first last) first
  kind_excluded touched first last (return e) = mark_if (touched first last) first
  kind_excluded touched first last (raise e) = mark_if (touched first last) first
  kind_excluded touched first last (assert e w) = mark_if (touched first last) first
  kind_excluded touched first last (global xs) = []
  kind_excluded touched first last (import names) = mark_if (touched first last) first
  kind_excluded touched first last (from m names) = mark_if (touched first last) first
  kind_excluded touched first last (if' arms o) =
      arms_excluded touched arms ++ opt_excluded touched o
  kind_excluded touched first last (while t b o) =
      header_excluded touched (first ∷ []) b ++ opt_excluded touched o
  kind_excluded touched first last (for t e b o) =
      header_excluded touched (first ∷ []) b ++ opt_excluded touched o
  kind_excluded touched first last (try b cs o f) =
      header_excluded touched (first ∷ []) b
      ++ (clauses_excluded touched cs ++ (opt_excluded touched o ++ opt_excluded touched f))
  kind_excluded touched first last (def x ps ds c (suite header header_last inline b)) =
      if touched header header_last
      then first ∷ function_marks (suite header header_last inline b)
      else body_excluded touched b
  kind_excluded touched first last (match e header_last cs) =
      if touched first header_last then first ∷ cases_marks cs else cases_excluded touched cs

  -- of the marks of a header itself, and its suite
  pub header_excluded : (ℕ → ℕ → Bool) → List ℕ → Suite → List ℕ
  header_excluded touched marks (suite first last inline b) =
      if touched first last then marks ++ stmts_marks b else stmts_excluded touched b

  -- the header of an `else` or a `finally` has no mark
  pub opt_excluded : (ℕ → ℕ → Bool) → OptSuite → List ℕ
  opt_excluded touched no_suite = []
  opt_excluded touched (has_suite s) = header_excluded touched [] s

  -- of the tests of an `if`
  pub arms_excluded : (ℕ → ℕ → Bool) → Arms → List ℕ
  arms_excluded touched no_arms = []
  arms_excluded touched (arm t s arms) =
      header_excluded touched (header_line s ∷ []) s ++ arms_excluded touched arms

  -- of the clauses of a `try`
  pub clauses_excluded : (ℕ → ℕ → Bool) → Clauses → List ℕ
  clauses_excluded touched no_clauses = []
  clauses_excluded touched (clause e x s cs) =
      header_excluded touched (header_line s ∷ []) s ++ clauses_excluded touched cs

  -- of the cases of a `match`
  pub cases_excluded : (ℕ → ℕ → Bool) → Cases → List ℕ
  cases_excluded touched no_cases = []
  cases_excluded touched (case p g s cs) =
      header_excluded touched (header_line s ∷ []) s ++ cases_excluded touched cs

  -- of the body of a module or a function, whose docstring marks nothing
  pub body_excluded : (ℕ → ℕ → Bool) → Stmts → List ℕ
  body_excluded touched no_stmts = []
  body_excluded touched (stmt first last k e ss) =
      if is_docstring k
      then stmts_excluded touched ss
      else kind_excluded touched first last k ++ stmts_excluded touched ss

-- the statement lines that these matched lines exclude, in order, each once
abbrev pub excluded_lines : List ℕ → Stmts → List ℕ
excluded_lines matched m = in_order (body_excluded (touches matched) m)
