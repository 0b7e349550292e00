-- Statements that define only functions of a list have only `def`s that begin one of the list.
use Rattle.std.proofs.Common.{ℕ, List, [], ◌∷◌, ◌++◌, IsTrue}
use Rattle.std.specs.List.{AllByRecursion}
use Rattle.py_syntax.specs.Functions.{Function, defining, own_function}
use Rattle.py_syntax.specs.Gathering.{gather, gather_kind, gather_suite, gather_opt, gather_arms, gather_clauses, gather_cases}
use Rattle.py_syntax.specs.Tree.{Stmts, no_stmts, stmt, Suite, suite, OptSuite, no_suite, has_suite, Arms, no_arms, arm, Clauses, no_clauses, clause, Cases, no_cases, case, StmtKind, if', while, for, try, def, match}
use Rattle.py_changes.specs.Regular.{all_statements, begins_one, StandsIn}
use Rattle.py_changes.proofs.Lists.{all-left, all-right, all-joined}

module _ (fs : List Function) where
  -- a function that begins in a line of the list
  abbrev Begins : Function → Type 0
  Begins f = IsTrue (begins_one f.line fs)

  -- a statement that defines no other function
  abbrev Stands : ℕ × StmtKind → Type 0
  Stands s = StandsIn fs s.0 s.1

  -- statements that define no others
  abbrev pub AllStand : List (ℕ × StmtKind) → Type 0
  AllStand ss = AllByRecursion Stands ss

  mutual
    pub row-stands : (a : Stmts) → AllByRecursion Begins (gather defining a)
        → AllStand (gather all_statements a)
    row-stands no_stmts h = tt
    row-stands (stmt l b k e r) h =
        let here = gather_kind all_statements ((l, k) ∷ []) k in
        all-joined Stands here (gather all_statements r)
        (kind-stands l k (all-left Begins (gather_kind defining (own_function l k) k)
        (gather defining r) h))
        (row-stands r (all-right Begins (gather_kind defining (own_function l k) k)
        (gather defining r) h))

    kind-stands : (l : ℕ) (k : StmtKind)
        → AllByRecursion Begins (gather_kind defining (own_function l k) k)
        → AllStand (gather_kind all_statements ((l, k) ∷ []) k)
    kind-stands l (if' no_arms o) h = (tt, opt-stands o h)
    kind-stands l (if' (arm e s r) o) h = (
      tt,
      all-joined Stands (gather_arms all_statements (arm e s r))
          (gather_opt all_statements o)
          (arms-stands (arm e s r)
          (all-left Begins (gather_arms defining (arm e s r)) (gather_opt defining o) h))
          (opt-stands o
          (all-right Begins (gather_arms defining (arm e s r)) (gather_opt defining o) h)),
    )
    kind-stands l (while e s o) h = (
      tt,
      all-joined Stands (gather_suite all_statements s) (gather_opt all_statements o)
          (suite-stands s (all-left Begins (gather_suite defining s) (gather_opt defining o) h))
          (opt-stands o (all-right Begins (gather_suite defining s) (gather_opt defining o) h)),
    )
    kind-stands l (for x e s o) h = (
      tt,
      all-joined Stands (gather_suite all_statements s) (gather_opt all_statements o)
          (suite-stands s (all-left Begins (gather_suite defining s) (gather_opt defining o) h))
          (opt-stands o (all-right Begins (gather_suite defining s) (gather_opt defining o) h)),
    )
    kind-stands l (try s cs o fin) h =
        let h' = all-right Begins (gather_suite defining s) (gather_clauses defining cs
        ++ (gather_opt defining o ++ gather_opt defining fin)) h in
        let h'' = all-right Begins (gather_clauses defining cs) (gather_opt defining o
        ++ gather_opt defining fin) h' in (
          tt,
          all-joined Stands (gather_suite all_statements s)
              (gather_clauses all_statements cs
              ++ (gather_opt all_statements o ++ gather_opt all_statements fin))
              (suite-stands s
              (all-left Begins (gather_suite defining s)
              (gather_clauses defining cs ++ (gather_opt defining o ++ gather_opt defining fin)) h))
              (all-joined Stands (gather_clauses all_statements cs)
              (gather_opt all_statements o ++ gather_opt all_statements fin)
              (clauses-stands cs
              (all-left Begins (gather_clauses defining cs)
              (gather_opt defining o ++ gather_opt defining fin) h'))
              (all-joined Stands (gather_opt all_statements o) (gather_opt all_statements fin)
              (opt-stands o (all-left Begins (gather_opt defining o) (gather_opt defining fin) h''))
              (opt-stands fin
              (all-right Begins (gather_opt defining o) (gather_opt defining fin) h'')))),
        )
    kind-stands l (def x ps ds c (suite f g i b)) h = (h.0, tt)
    kind-stands l (match e last cs) h = (tt, cases-stands cs h)
    kind-stands l k h = (tt, tt)

    suite-stands : (s : Suite) → AllByRecursion Begins (gather_suite defining s)
        → AllStand (gather_suite all_statements s)
    suite-stands (suite l a i b) h = row-stands b h

    opt-stands : (o : OptSuite) → AllByRecursion Begins (gather_opt defining o)
        → AllStand (gather_opt all_statements o)
    opt-stands no_suite h = tt
    opt-stands (has_suite s) h = suite-stands s h

    arms-stands : (xs : Arms) → AllByRecursion Begins (gather_arms defining xs)
        → AllStand (gather_arms all_statements xs)
    arms-stands no_arms h = tt
    arms-stands (arm e s r) h =
        all-joined Stands (gather_suite all_statements s) (gather_arms all_statements r)
        (suite-stands s (all-left Begins (gather_suite defining s) (gather_arms defining r) h))
        (arms-stands r (all-right Begins (gather_suite defining s) (gather_arms defining r) h))

    clauses-stands : (cs : Clauses) → AllByRecursion Begins (gather_clauses defining cs)
        → AllStand (gather_clauses all_statements cs)
    clauses-stands no_clauses h = tt
    clauses-stands (clause e x s r) h =
        all-joined Stands (gather_suite all_statements s) (gather_clauses all_statements r)
        (suite-stands s (all-left Begins (gather_suite defining s) (gather_clauses defining r) h))
        (clauses-stands r
        (all-right Begins (gather_suite defining s) (gather_clauses defining r) h))

    cases-stands : (cs : Cases) → AllByRecursion Begins (gather_cases defining cs)
        → AllStand (gather_cases all_statements cs)
    cases-stands no_cases h = tt
    cases-stands (case p g s r) h =
        all-joined Stands (gather_suite all_statements s) (gather_cases all_statements r)
        (suite-stands s (all-left Begins (gather_suite defining s) (gather_cases defining r) h))
        (cases-stands r (all-right Begins (gather_suite defining s) (gather_cases defining r) h))
