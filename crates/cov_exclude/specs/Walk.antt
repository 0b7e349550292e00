-- One walk over a tree that gathers marks: those that are touched, where `spreads` says so with the
-- suites of touched headers, and all of them where `whole` says so. Statements that lead a body may
-- begin with a docstring.
--     Rule                           which lines touch, and whether a header takes its suite
--     is_gathered, is_whole          whether a mark is gathered, and the suite after it
--     stmts_walk, kind_walk          the marks of statements, and the like for what stands in them
use Rattle.std.specs.Prelude.{ℕ, Bool, true, false, ◌&&◌, ◌||◌, if◌then◌else◌, List, [], ◌++◌}
use Rattle.py_syntax.specs.Functions.{is_docstring}
use Rattle.py_syntax.specs.Tree.{Stmts, no_stmts, stmt, Suite, suite, OptSuite, no_suite, has_suite, Arms, no_arms, arm, Clauses, no_clauses, clause, Cases, no_cases, case, StmtKind, expr, assign, aug_assign, pass, break, continue, return, raise, assert, global, import, from, if', while, for, try, def, match}
use Rattle.cov_predict.specs.Walk.{header_line}
use Rattle.cov_exclude.specs.Touched.{mark_if}

-- which lines touch, and whether a touched header takes its suite with it
pub record Rule : Type 0 where
  pub touched : ℕ → ℕ → Bool
  pub spreads : Bool

-- whether a statement or header with these lines is gathered
abbrev pub is_gathered : Rule → Bool → ℕ → ℕ → Bool
is_gathered r whole first last = whole || r.touched first last

-- whether the suite after it is gathered as a whole
abbrev pub is_whole : Rule → Bool → ℕ → ℕ → Bool
is_whole r whole first last = whole || (r.spreads && r.touched first last)

abbrev mutual
  -- of statements in a row, which may lead a body
  pub stmts_walk : Rule → Bool → Bool → Stmts → List ℕ
  stmts_walk r whole leads no_stmts = []
  stmts_walk r whole leads (stmt first last k e ss) =
      (if leads && is_docstring k then [] else kind_walk r whole first last k)
      ++ stmts_walk r whole false ss

  -- of a statement with this first and last line
  pub kind_walk : Rule → Bool → ℕ → ℕ → StmtKind → List ℕ
  kind_walk r whole first last (expr e) = mark_if (is_gathered r whole first last) first
  kind_walk r whole first last (assign ts e) = mark_if (is_gathered r whole first last) first
  kind_walk r whole first last (aug_assign t op e) = mark_if (is_gathered r whole first last) first
  kind_walk r whole first last pass = mark_if (is_gathered r whole first last) first
  kind_walk r whole first last break = mark_if (is_gathered r whole first last) first
  kind_walk r whole first last continue = mark_if (is_gathered r whole first last) first
  kind_walk r whole first last (return e) = mark_if (is_gathered r whole first last) first
  kind_walk r whole first last (raise e) = mark_if (is_gathered r whole first last) first
  kind_walk r whole first last (assert e w) = mark_if (is_gathered r whole first last) first
  kind_walk r whole first last (global xs) = []
  kind_walk r whole first last (import names) = mark_if (is_gathered r whole first last) first
  kind_walk r whole first last (from m names) = mark_if (is_gathered r whole first last) first
  kind_walk r whole first last (if' arms o) = arms_walk r whole arms ++ opt_walk r whole o
  kind_walk r whole first last (while t b o) =
      headed_walk r whole false first b ++ opt_walk r whole o
  kind_walk r whole first last (for t e b o) =
      headed_walk r whole false first b ++ opt_walk r whole o
  kind_walk r whole first last (try b cs o f) =
      headed_walk r whole false first b
      ++ (clauses_walk r whole cs ++ (opt_walk r whole o ++ opt_walk r whole f))
  kind_walk r whole first last (def x ps ds c b) = headed_walk r whole true first b
  kind_walk r whole first last (match e header_last cs) =
      mark_if (is_gathered r whole first header_last) first
      ++ cases_walk r (is_whole r whole first header_last) cs

  -- a header with a mark on this line, and its suite
  pub headed_walk : Rule → Bool → Bool → ℕ → Suite → List ℕ
  headed_walk r whole leads line (suite first last inline b) =
      mark_if (is_gathered r whole first last) line
      ++ stmts_walk r (is_whole r whole first last) leads b

  -- a suite whose header has no mark
  pub inside_walk : Rule → Bool → Suite → List ℕ
  inside_walk r whole (suite first last inline b) =
      stmts_walk r (is_whole r whole first last) false b

  -- of the suite of an `else` or a `finally`, which may be missing
  pub opt_walk : Rule → Bool → OptSuite → List ℕ
  opt_walk r whole no_suite = []
  opt_walk r whole (has_suite s) = inside_walk r whole s

  -- of the tests of an `if`
  pub arms_walk : Rule → Bool → Arms → List ℕ
  arms_walk r whole no_arms = []
  arms_walk r whole (arm t s arms) =
      headed_walk r whole false (header_line s) s ++ arms_walk r whole arms

  -- of the clauses of a `try`
  pub clauses_walk : Rule → Bool → Clauses → List ℕ
  clauses_walk r whole no_clauses = []
  clauses_walk r whole (clause e x s cs) =
      headed_walk r whole false (header_line s) s ++ clauses_walk r whole cs

  -- of the cases of a `match`
  pub cases_walk : Rule → Bool → Cases → List ℕ
  cases_walk r whole no_cases = []
  cases_walk r whole (case p g s cs) =
      headed_walk r whole false (header_line s) s ++ cases_walk r whole cs

-- of a statement with this first and last line, which may lead a body
abbrev pub leading_walk : Rule → Bool → Bool → ℕ → ℕ → StmtKind → List ℕ
leading_walk r whole leads first last k =
    if leads && is_docstring k then [] else kind_walk r whole first last k
