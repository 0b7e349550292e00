-- The marks that begin a statement are marks of it.
use Rattle.std.proofs.Common.{ℕ, List}
use Rattle.py_syntax.specs.FirstMarks.{kind_empty, stmts_first, kind_first, opt_first, arms_first, clauses_first, cases_first}
use Rattle.py_syntax.specs.Marks.{stmts_marks, kind_marks, opt_marks, arms_marks, clauses_marks, cases_marks}
use Rattle.py_syntax.specs.Tree.{Stmts, no_stmts, stmt, suite, OptSuite, no_suite, has_suite, Arms, no_arms, arm, Clauses, no_clauses, clause, Cases, no_cases, case, StmtKind, expr, assign, aug_assign, pass, break, continue, return, raise, assert, global, import, from, if', while, for, try, def, match}
use Rattle.cov_analysis.proofs.Among.{both, front, rest-of, In, only-in}

module _ (P : ℕ → Type 0) where
  mutual
    unfolding stmts_first kind_first opt_first

    pub first-in : (m : Stmts) → In P (stmts_marks m) → In P (stmts_first m)
    first-in no_stmts h = tt
    first-in (stmt f l k e rest) h = both P _ _ (kind_first-in f k (front P (kind_marks f k) _ h)) (only-in P (kind_empty k) (stmts_first rest) (first-in rest (rest-of P (kind_marks f k) _ h)))

    kind_first-in : (l : ℕ) (k : StmtKind) → In P (kind_marks l k) → In P (kind_first l k)
    kind_first-in l (expr e) h = (h.0, tt)
    kind_first-in l (assign ts e) h = (h.0, tt)
    kind_first-in l (aug_assign t op e) h = (h.0, tt)
    kind_first-in l pass h = (h.0, tt)
    kind_first-in l break h = (h.0, tt)
    kind_first-in l continue h = (h.0, tt)
    kind_first-in l (return e) h = (h.0, tt)
    kind_first-in l (raise e) h = (h.0, tt)
    kind_first-in l (assert e why) h = (h.0, tt)
    kind_first-in l (global xs) h = tt
    kind_first-in l (import names) h = (h.0, tt)
    kind_first-in l (from m names) h = (h.0, tt)
    kind_first-in l (if' arms o) h = arms_first-in arms (opt_first o) (front P (arms_marks arms) _ h) (opt_first-in o (rest-of P (arms_marks arms) _ h))
    kind_first-in l (while t b o) h = (h.0, tt)
    kind_first-in l (for t e b o) h = (h.0, tt)
    kind_first-in l (try b cs o fin) h = (h.0, tt)
    kind_first-in l (def x ps ds c b) h = (h.0, tt)
    kind_first-in l (match e header cs) h = (h.0, tt)

    pub opt_first-in : (o : OptSuite) → In P (opt_marks o) → In P (opt_first o)
    opt_first-in no_suite h = tt
    opt_first-in (has_suite (suite f l inline b)) h = first-in b h

    pub arms_first-in : (arms : Arms) (orelse : List ℕ) → In P (arms_marks arms) → In P orelse → In P (arms_first arms orelse)
    arms_first-in no_arms orelse h k = k
    arms_first-in (arm t (suite f l inline b) rest) orelse h k = (h.0, tt)

  pub clauses_first-in : (cs : Clauses) → In P (clauses_marks cs) → In P (clauses_first cs)
  clauses_first-in no_clauses h = tt
  clauses_first-in (clause k x (suite f l inline b) rest) h = (h.0, tt)

  pub cases_first-in : (cs : Cases) → In P (cases_marks cs) → In P (cases_first cs)
  cases_first-in no_cases h = tt
  cases_first-in (case p g (suite f l inline b) rest) h = (h.0, tt)
