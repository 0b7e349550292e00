-- The lines and the bodies of functions are marked.
use Rattle.std.proofs.Common.{◌≡◌, ℕ, Bool, true, false, true≢false, cond, List, ◌++◌, refl, sym}
use Rattle.std.specs.List.{AllByRecursion}
use Rattle.py_syntax.specs.Functions.{Function, functions, functions_in, opt_functions, arms_functions, clauses_functions, cases_functions, is_docstring}
use Rattle.py_syntax.specs.Marks.{stmts_marks, kind_marks, opt_marks, arms_marks, clauses_marks, cases_marks, body_marks}
use Rattle.py_syntax.specs.Tree.{Stmts, no_stmts, stmt, suite, OptSuite, no_suite, has_suite, Arms, no_arms, arm, Clauses, no_clauses, clause, Cases, no_cases, case, StmtKind, expr, assign, aug_assign, pass, break, continue, return, raise, assert, global, import, from, if', while, for, try, def, match}
use Rattle.cov_analysis.proofs.Among.{both, front, rest-of, In}

module _ (P : ℕ → Type 0) where
  abbrev pub BodyIn : Function → Type 0
  BodyIn f = P f.line × In P (body_marks f.body)

  -- the line and the body of each function are marked
  abbrev pub Bodies : List Function → Type 0
  Bodies fs = AllByRecursion BodyIn fs

  three : (fs gs : List Function) → Bodies fs → Bodies gs → Bodies (fs ++ gs)
  three fs gs h k = both BodyIn fs gs h k

  mutual
    unfolding functions functions_in opt_functions arms_functions clauses_functions cases_functions

    bodies : (m : Stmts) → In P (stmts_marks m) → Bodies (functions m)
    bodies no_stmts h = tt
    bodies (stmt f l k e rest) h = three _ _ (kind-bodies f k (front P (kind_marks f k) _ h)) (bodies rest (rest-of P (kind_marks f k) _ h))

    kind-bodies : (l : ℕ) (k : StmtKind) → In P (kind_marks l k) → Bodies (functions_in l k)
    kind-bodies l (expr e) h = tt
    kind-bodies l (assign ts e) h = tt
    kind-bodies l (aug_assign t op e) h = tt
    kind-bodies l pass h = tt
    kind-bodies l break h = tt
    kind-bodies l continue h = tt
    kind-bodies l (return e) h = tt
    kind-bodies l (raise e) h = tt
    kind-bodies l (assert e why) h = tt
    kind-bodies l (global xs) h = tt
    kind-bodies l (import names) h = tt
    kind-bodies l (from m names) h = tt
    kind-bodies l (if' arms o) h = three _ _ (arms-bodies arms (front P (arms_marks arms) _ h)) (opt-bodies o (rest-of P (arms_marks arms) _ h))
    kind-bodies l (while t (suite f g inline b) o) h = three _ _ (bodies b (front P (stmts_marks b) _ h.1)) (opt-bodies o (rest-of P (stmts_marks b) _ h.1))
    kind-bodies l (for t e (suite f g inline b) o) h = three _ _ (bodies b (front P (stmts_marks b) _ h.1)) (opt-bodies o (rest-of P (stmts_marks b) _ h.1))
    kind-bodies l (try (suite f g inline b) cs o fin) h =
        let later = rest-of P (stmts_marks b) _ h.1 in
        let last = rest-of P (clauses_marks cs) _ later in
        three _ _ (bodies b (front P (stmts_marks b) _ h.1)) (three _ _ (clauses-bodies cs (front P (clauses_marks cs) _ later)) (three _ _ (opt-bodies o (front P (opt_marks o) _ last)) (opt-bodies fin (rest-of P (opt_marks o) _ last))))
    kind-bodies l (def x ps ds c (suite f g inline b)) h = ((h.0, h.1), tt)
    kind-bodies l (match e header cs) h = cases-bodies cs h.1

    opt-bodies : (o : OptSuite) → In P (opt_marks o) → Bodies (opt_functions o)
    opt-bodies no_suite h = tt
    opt-bodies (has_suite (suite f l inline b)) h = bodies b h

    arms-bodies : (arms : Arms) → In P (arms_marks arms) → Bodies (arms_functions arms)
    arms-bodies no_arms h = tt
    arms-bodies (arm t (suite f l inline b) rest) h = three _ _ (bodies b (front P (stmts_marks b) _ h.1)) (arms-bodies rest (rest-of P (stmts_marks b) _ h.1))

    clauses-bodies : (cs : Clauses) → In P (clauses_marks cs) → Bodies (clauses_functions cs)
    clauses-bodies no_clauses h = tt
    clauses-bodies (clause k x (suite f l inline b) rest) h = three _ _ (bodies b (front P (stmts_marks b) _ h.1)) (clauses-bodies rest (rest-of P (stmts_marks b) _ h.1))

    cases-bodies : (cs : Cases) → In P (cases_marks cs) → Bodies (cases_functions cs)
    cases-bodies no_cases h = tt
    cases-bodies (case p g (suite f l inline b) rest) h = three _ _ (bodies b (front P (stmts_marks b) _ h.1)) (cases-bodies rest (rest-of P (stmts_marks b) _ h.1))

  no_bodies : (l : ℕ) (k : StmtKind) → is_docstring k ≡ true → Bodies (functions_in l k)
  unfolding functions_in
  no_bodies l (expr e) is = tt
  no_bodies l (assign ts e) is = tt
  no_bodies l (aug_assign t op e) is = tt
  no_bodies l pass is = tt
  no_bodies l break is = tt
  no_bodies l continue is = tt
  no_bodies l (return e) is = tt
  no_bodies l (raise e) is = tt
  no_bodies l (assert e why) is = tt
  no_bodies l (global xs) is = tt
  no_bodies l (import names) is = tt
  no_bodies l (from m names) is = tt
  no_bodies l (if' arms o) is = absurd (true≢false (sym is))
  no_bodies l (while t b o) is = absurd (true≢false (sym is))
  no_bodies l (for t e b o) is = absurd (true≢false (sym is))
  no_bodies l (try b cs o fin) is = absurd (true≢false (sym is))
  no_bodies l (def x ps ds c b) is = absurd (true≢false (sym is))
  no_bodies l (match e header cs) is = absurd (true≢false (sym is))

  pub module-bodies : (m : Stmts) → In P (body_marks m) → Bodies (functions m)
  unfolding functions
  module-bodies no_stmts h = tt
  module-bodies (stmt f l k e rest) h = go (is_docstring k) refl h
    where
      go : (t : Bool) → is_docstring k ≡ t → In P (cond t (stmts_marks rest) (kind_marks f k ++ stmts_marks rest)) → Bodies (functions_in f k ++ functions rest)
      go true is h = three _ _ (no_bodies f k is) (bodies rest h)
      go false is h = three _ _ (kind-bodies f k (front P (kind_marks f k) _ h)) (bodies rest (rest-of P (kind_marks f k) _ h))
