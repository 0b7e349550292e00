-- The bodies of the functions of a normal text are normal.
use Rattle.std.proofs.Common.{ℕ, true, false, List, ◌++◌}
use Rattle.std.specs.List.{AllByRecursion}
use Rattle.py_syntax.specs.Functions.{Function, defining, own_function}
use Rattle.py_syntax.specs.Gathering.{gather, gather_kind, gather_suite, gather_opt, gather_arms, gather_clauses, gather_cases}
use Rattle.py_syntax.specs.Statements.{NormalStmts, NormalKind, NormalSuite, NormalOpt, NormalArms, NormalClauses, NormalCases}
use Rattle.py_syntax.specs.Tree.{Stmts, no_stmts, stmt, Suite, suite, OptSuite, no_suite, has_suite, Arms, no_arms, arm, Clauses, no_clauses, clause, Cases, no_cases, case, StmtKind, if', while, for, try, def, match}
use Rattle.py_changes.proofs.Lists.{all-joined}

-- a function with a normal body
abbrev IsBodied : Function → Type 0
IsBodied f = NormalStmts f.body

-- functions with normal bodies
abbrev pub AreBodied : List Function → Type 0
AreBodied fs = AllByRecursion IsBodied fs

mutual
  pub row-bodies : (a : Stmts) → NormalStmts a → AreBodied (gather defining a)
  row-bodies no_stmts h = tt
  row-bodies (stmt l b k e r) h =
      all-joined IsBodied (gather_kind defining (own_function l k) k) (gather defining r)
      (kind-bodies l k h.0) (row-bodies r h.1)

  kind-bodies : (l : ℕ) (k : StmtKind) → NormalKind k
      → AreBodied (gather_kind defining (own_function l k) k)
  kind-bodies l (if' no_arms o) h = absurd h
  kind-bodies l (if' (arm t s r) o) h =
      all-joined IsBodied (gather_arms defining (arm t s r)) (gather_opt defining o)
      (arms-bodies (arm t s r) h.0) (opt-bodies o h.1)
  kind-bodies l (while t s o) h =
      all-joined IsBodied (gather_suite defining s) (gather_opt defining o) (suite-bodies s h.1)
      (opt-bodies o h.2)
  kind-bodies l (for t e s o) h =
      all-joined IsBodied (gather_suite defining s) (gather_opt defining o) (suite-bodies s h.3)
      (opt-bodies o h.4)
  kind-bodies l (try s cs o f) h =
      all-joined IsBodied (gather_suite defining s) (gather_clauses defining cs
      ++ (gather_opt defining o ++ gather_opt defining f)) (suite-bodies s h.1)
      (all-joined IsBodied (gather_clauses defining cs)
      (gather_opt defining o ++ gather_opt defining f) (clauses-bodies cs h.2)
      (all-joined IsBodied (gather_opt defining o) (gather_opt defining f) (opt-bodies o h.3)
      (opt-bodies f h.4)))
  kind-bodies l (def x ps ds c (suite f g i no_stmts)) h = absurd h.1
  kind-bodies l (def x ps ds c (suite f g true (stmt m n k e r))) h = (h.1.1, tt)
  kind-bodies l (def x ps ds c (suite f g false (stmt m n k e r))) h = (h.1.1, tt)
  kind-bodies l (match e last no_cases) h = absurd h
  kind-bodies l (match e last (case p g s r)) h = cases-bodies (case p g s r) h.1
  kind-bodies l k h = tt

  suite-bodies : (s : Suite) → NormalSuite s → AreBodied (gather_suite defining s)
  suite-bodies (suite l a i no_stmts) h = absurd h
  suite-bodies (suite l a true (stmt f g k e r)) h = row-bodies (stmt f g k e r) h.1
  suite-bodies (suite l a false (stmt f g k e r)) h = row-bodies (stmt f g k e r) h.1

  opt-bodies : (o : OptSuite) → NormalOpt o → AreBodied (gather_opt defining o)
  opt-bodies no_suite h = tt
  opt-bodies (has_suite s) h = suite-bodies s h

  arms-bodies : (xs : Arms) → NormalArms xs → AreBodied (gather_arms defining xs)
  arms-bodies no_arms h = tt
  arms-bodies (arm t s r) h =
      all-joined IsBodied (gather_suite defining s) (gather_arms defining r) (suite-bodies s h.1)
      (arms-bodies r h.2)

  clauses-bodies : (cs : Clauses) → NormalClauses cs → AreBodied (gather_clauses defining cs)
  clauses-bodies no_clauses h = tt
  clauses-bodies (clause e x s r) h =
      all-joined IsBodied (gather_suite defining s) (gather_clauses defining r) (suite-bodies s h.1)
      (clauses-bodies r h.2)

  cases-bodies : (cs : Cases) → NormalCases cs → AreBodied (gather_cases defining cs)
  cases-bodies no_cases h = tt
  cases-bodies (case p g s r) h =
      all-joined IsBodied (gather_suite defining s) (gather_cases defining r) (suite-bodies s h.2)
      (cases-bodies r h.3)
