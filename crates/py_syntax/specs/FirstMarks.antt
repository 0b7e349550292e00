-- What a run of a part of a tree may pass without a mark, and the mark that comes first in it. A
-- mark is told by its line. (Python Language Reference, 7 and 8)
--     only                                   marks that count only where something holds
--     stmts_empty, kind_empty, opt_empty     whether a part has no mark
--     stmts_first, kind_first, opt_first     the mark that comes first, if any; arms_first and the
--                                            like for what stands in statements
use Rattle.std.specs.Prelude.{ℕ, Bool, true, false, ◌&&◌, List, [], ◌∷◌, ◌++◌}
use Rattle.py_syntax.specs.Tree.{Stmts, no_stmts, stmt, suite, OptSuite, no_suite, has_suite, Arms, no_arms, arm, Clauses, no_clauses, clause, Cases, no_cases, case, StmtKind, expr, assign, aug_assign, pass, break, continue, return, raise, assert, global, import, from, if', while, for, try, def, match}

-- marks that count only where something holds
abbrev pub only : Bool → List ℕ → List ℕ
only true ls = ls
only false ls = []

-- whether the tests of an `if` have no mark: each test marks
abbrev pub arms_empty : Arms → Bool → Bool
arms_empty no_arms orelse = orelse
arms_empty (arm t s rest) orelse = false

-- Of the simple statements `global` alone marks nothing. After a suite of these alone a run goes on
-- as if it weren't there.
unfoldable mutual
  -- whether statements in a row have no mark
  pub stmts_empty : Stmts → Bool
  stmts_empty no_stmts = true
  stmts_empty (stmt f l k e rest) = kind_empty k && stmts_empty rest

  -- whether a statement has no mark
  pub kind_empty : StmtKind → Bool
  kind_empty (expr e) = false
  kind_empty (assign ts e) = false
  kind_empty (aug_assign t op e) = false
  kind_empty pass = false
  kind_empty break = false
  kind_empty continue = false
  kind_empty (return e) = false
  kind_empty (raise e) = false
  kind_empty (assert e w) = false
  kind_empty (global xs) = true
  kind_empty (import names) = false
  kind_empty (from m names) = false
  kind_empty (if' arms o) = arms_empty arms (opt_empty o)
  kind_empty (while t b o) = false
  kind_empty (for t e b o) = false
  kind_empty (try b cs o fin) = false
  kind_empty (def x ps ds c b) = false
  kind_empty (match e last cs) = false

  -- the suite of an `else` or a `finally`; one that is missing is empty
  pub opt_empty : OptSuite → Bool
  opt_empty no_suite = true
  opt_empty (has_suite (suite f l inline b)) = stmts_empty b

-- the first test, or the first mark of the `else`
abbrev pub arms_first : Arms → List ℕ → List ℕ
arms_first no_arms orelse = orelse
arms_first (arm t (suite f l inline b) rest) orelse = f ∷ []

-- the mark of the first clause of a `try`
abbrev pub clauses_first : Clauses → List ℕ
clauses_first no_clauses = []
clauses_first (clause k x (suite f l inline b) rest) = f ∷ []

-- the mark of the first case of a `match`
abbrev pub cases_first : Cases → List ℕ
cases_first no_cases = []
cases_first (case p g (suite f l inline b) rest) = f ∷ []

unfoldable mutual
  -- the first mark of statements in a row
  pub stmts_first : Stmts → List ℕ
  stmts_first no_stmts = []
  stmts_first (stmt f l k e rest) = kind_first f k ++ only (kind_empty k) (stmts_first rest)

  -- of a statement with this first line
  pub kind_first : ℕ → StmtKind → List ℕ
  kind_first l (expr e) = l ∷ []
  kind_first l (assign ts e) = l ∷ []
  kind_first l (aug_assign t op e) = l ∷ []
  kind_first l pass = l ∷ []
  kind_first l break = l ∷ []
  kind_first l continue = l ∷ []
  kind_first l (return e) = l ∷ []
  kind_first l (raise e) = l ∷ []
  kind_first l (assert e w) = l ∷ []
  kind_first l (global xs) = []
  kind_first l (import names) = l ∷ []
  kind_first l (from m names) = l ∷ []
  kind_first l (if' arms o) = arms_first arms (opt_first o)
  kind_first l (while t b o) = l ∷ []
  kind_first l (for t e b o) = l ∷ []
  kind_first l (try b cs o fin) = l ∷ []
  kind_first l (def x ps ds c b) = l ∷ []
  kind_first l (match e last cs) = l ∷ []

  -- the first mark of the suite of an `else` or a `finally`
  pub opt_first : OptSuite → List ℕ
  opt_first no_suite = []
  opt_first (has_suite (suite f l inline b)) = stmts_first b
