-- Each `if` of a normal text has a test.
use Rattle.std.proofs.Common.{ℕ, true, false, List, [], ◌∷◌, ◌++◌}
use Rattle.std.specs.List.{AllByRecursion}
use Rattle.py_syntax.specs.Gathering.{gather, gather_kind, gather_suite, gather_opt, gather_arms, gather_clauses, gather_cases}
use Rattle.py_syntax.specs.Statements.{NormalStmts, NormalKind, NormalSuite, NormalOpt, NormalArms, NormalClauses, NormalCases}
use Rattle.py_syntax.specs.Tree.{Stmts, no_stmts, stmt, Suite, suite, OptSuite, no_suite, has_suite, Arms, no_arms, arm, Clauses, no_clauses, clause, Cases, no_cases, case, StmtKind, if', while, for, try, match}
use Rattle.py_changes.specs.Regular.{all_statements, HasTest}
use Rattle.py_changes.proofs.Lists.{all-joined}

-- an `if` has a test
abbrev Tested : ℕ × StmtKind → Type 0
Tested s = HasTest s.1

-- each `if` of these statements has one
abbrev pub HaveTests : List (ℕ × StmtKind) → Type 0
HaveTests ss = AllByRecursion Tested ss

mutual
  pub row-tests : (a : Stmts) → NormalStmts a → HaveTests (gather all_statements a)
  row-tests no_stmts h = tt
  row-tests (stmt l b k e r) h =
      all-joined Tested (gather_kind all_statements ((l, k) ∷ []) k) (gather all_statements r)
      (kind-tests l k h.0) (row-tests r h.1)

  kind-tests : (l : ℕ) (k : StmtKind) → NormalKind k
      → HaveTests (gather_kind all_statements ((l, k) ∷ []) k)
  kind-tests l (if' no_arms o) h = absurd h
  kind-tests l (if' (arm t s r) o) h = (
    tt,
    all-joined Tested (gather_arms all_statements (arm t s r)) (gather_opt all_statements o)
        (arms-tests (arm t s r) h.0) (opt-tests o h.1),
  )
  kind-tests l (while t s o) h = (
    tt,
    all-joined Tested (gather_suite all_statements s) (gather_opt all_statements o)
        (suite-tests s h.1) (opt-tests o h.2),
  )
  kind-tests l (for t e s o) h = (
    tt,
    all-joined Tested (gather_suite all_statements s) (gather_opt all_statements o)
        (suite-tests s h.3) (opt-tests o h.4),
  )
  kind-tests l (try s cs o f) h = (
    tt,
    all-joined Tested (gather_suite all_statements s)
        (gather_clauses all_statements cs
        ++ (gather_opt all_statements o ++ gather_opt all_statements f)) (suite-tests s h.1)
        (all-joined Tested (gather_clauses all_statements cs)
        (gather_opt all_statements o ++ gather_opt all_statements f) (clauses-tests cs h.2)
        (all-joined Tested (gather_opt all_statements o) (gather_opt all_statements f)
        (opt-tests o h.3) (opt-tests f h.4))),
  )
  kind-tests l (match e last no_cases) h = absurd h
  kind-tests l (match e last (case p g s r)) h = (tt, cases-tests (case p g s r) h.1)
  kind-tests l k h = (tt, tt)

  suite-tests : (s : Suite) → NormalSuite s → HaveTests (gather_suite all_statements s)
  suite-tests (suite l a i no_stmts) h = absurd h
  suite-tests (suite l a true (stmt f g k e r)) h = row-tests (stmt f g k e r) h.1
  suite-tests (suite l a false (stmt f g k e r)) h = row-tests (stmt f g k e r) h.1

  opt-tests : (o : OptSuite) → NormalOpt o → HaveTests (gather_opt all_statements o)
  opt-tests no_suite h = tt
  opt-tests (has_suite s) h = suite-tests s h

  arms-tests : (xs : Arms) → NormalArms xs → HaveTests (gather_arms all_statements xs)
  arms-tests no_arms h = tt
  arms-tests (arm t s r) h =
      all-joined Tested (gather_suite all_statements s) (gather_arms all_statements r)
      (suite-tests s h.1) (arms-tests r h.2)

  clauses-tests : (cs : Clauses) → NormalClauses cs → HaveTests (gather_clauses all_statements cs)
  clauses-tests no_clauses h = tt
  clauses-tests (clause e x s r) h =
      all-joined Tested (gather_suite all_statements s) (gather_clauses all_statements r)
      (suite-tests s h.1) (clauses-tests r h.2)

  cases-tests : (cs : Cases) → NormalCases cs → HaveTests (gather_cases all_statements cs)
  cases-tests no_cases h = tt
  cases-tests (case p g s r) h =
      all-joined Tested (gather_suite all_statements s) (gather_cases all_statements r)
      (suite-tests s h.2) (cases-tests r h.3)
