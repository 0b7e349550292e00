-- The marks that end a statement, in each way, are marks of it.
use Rattle.std.proofs.Common.{ℕ, Bool, not, ◌&&◌, ◌||◌, List, [], ◌∷◌}
use Rattle.py_syntax.specs.Constants.{is_constant}
use Rattle.py_syntax.specs.FirstMarks.{stmts_empty, opt_empty, arms_empty}
use Rattle.py_syntax.specs.LastMarks.{Way, onward, breaking, continuing, returning, raising, is_onward, is_raising, same_way, own_way, may_raise, past, past_loop, past_try, past_finally, comes, has_clause, has_case, is_sure, stmts_last, kind_last, opt_last, arms_last, clauses_last, cases_last, finally_last}
use Rattle.py_syntax.specs.Marks.{stmts_marks, kind_marks, opt_marks, arms_marks, clauses_marks, cases_marks}
use Rattle.py_syntax.specs.Tree.{Stmts, no_stmts, stmt, suite, OptSuite, no_suite, has_suite, Arms, no_arms, arm, Clauses, no_clauses, clause, Cases, no_cases, case, StmtKind, expr, assign, aug_assign, pass, break, continue, return, raise, assert, global, import, from, if', while, for, try, def, match}
use Rattle.cov_analysis.proofs.Among.{both, front, rest-of, In, only-in}

module _ (P : ℕ → Type 0) where
  own-in : (own : Way) (any : Bool) (w : Way) (l : ℕ) → P l → In P (own_way own any w l)
  own-in own any w l h = only-in P (same_way own w || (any && is_raising w)) (l ∷ []) (h, tt)

  may-in : (any : Bool) (w : Way) (l : ℕ) → P l → In P (may_raise any w l)
  may-in any w l h = only-in P (any && is_raising w) (l ∷ []) (h, tt)

  pub past-in : (l : ℕ) (b : Stmts) → P l → In P (past l b)
  past-in l b h = only-in P (stmts_empty b) (l ∷ []) (h, tt)

  loop-in : (w : Way) (broken left : List ℕ) → In P broken → In P left → In P (past_loop w broken left)
  loop-in onward broken left h k = h
  loop-in breaking broken left h k = tt
  loop-in continuing broken left h k = tt
  loop-in returning broken left h k = k
  loop-in raising broken left h k = k

  pub try-in : (w : Way) (tried passed : Bool) (ended left : List ℕ) → In P ended → In P left → In P (past_try w tried passed ended left)
  try-in onward tried passed ended left h k = only-in P passed ended h
  try-in breaking tried passed ended left h k = k
  try-in continuing tried passed ended left h k = k
  try-in returning tried passed ended left h k = k
  try-in raising tried passed ended left h k = only-in P (not tried) left k

  finally-in : (w : Way) (empty : Bool) (came ended left : List ℕ) → In P came → In P ended → In P left → In P (past_finally w empty came ended left)
  finally-in w empty came ended left c h k =
      both P _ _ (only-in P (comes came) ended h) (both P _ _ (only-in P empty came c) (only-in P (not (is_onward w)) left k))

  mutual
    unfolding stmts_last kind_last opt_last arms_last clauses_last cases_last finally_last

    pub stmts-in : (any : Bool) (w : Way) (m : Stmts) → In P (stmts_marks m) → In P (stmts_last any w m)
    stmts-in any w no_stmts h = tt
    stmts-in any w (stmt f l k e rest) h =
        both P _ _ (only-in P (not (is_onward w) || stmts_empty rest) (kind_last any w f k) (kind-in any w f k (front P (kind_marks f k) _ h))) (stmts-in any w rest (rest-of P (kind_marks f k) _ h))

    pub kind-in : (any : Bool) (w : Way) (l : ℕ) (k : StmtKind) → In P (kind_marks l k) → In P (kind_last any w l k)
    kind-in any w l (expr e) h = own-in onward any w l h.0
    kind-in any w l (assign ts e) h = own-in onward any w l h.0
    kind-in any w l (aug_assign t op e) h = own-in onward any w l h.0
    kind-in any w l pass h = own-in onward any w l h.0
    kind-in any w l break h = own-in breaking any w l h.0
    kind-in any w l continue h = own-in continuing any w l h.0
    kind-in any w l (return e) h = own-in returning any w l h.0
    kind-in any w l (raise e) h = own-in raising any w l h.0
    kind-in any w l (assert e why) h = own-in onward any w l h.0
    kind-in any w l (global xs) h = tt
    kind-in any w l (import names) h = own-in onward any w l h.0
    kind-in any w l (from m names) h = own-in onward any w l h.0
    kind-in any w l (if' arms o) h = arms-in any w arms (opt_last any w o) (opt_empty o) (front P (arms_marks arms) _ h) (opt-in any w o (rest-of P (arms_marks arms) _ h))
    kind-in any w l (while t (suite f g inline b) o) h =
        let body = front P (stmts_marks b) _ h.1 in
        both P _ _ (may-in any w l h.0) (both P _ _ (loop-in w _ _ (stmts-in any breaking b body) (stmts-in any w b body))
        (both P _ _ (only-in P (is_onward w) _ (only-in P (not (is_constant t) && opt_empty o) (l ∷ []) (h.0, tt))) (opt-in any w o (rest-of P (stmts_marks b) _ h.1))))
    kind-in any w l (for t e (suite f g inline b) o) h =
        let body = front P (stmts_marks b) _ h.1 in
        both P _ _ (may-in any w l h.0) (both P _ _ (loop-in w _ _ (stmts-in any breaking b body) (stmts-in any w b body))
        (both P _ _ (only-in P (is_onward w) _ (only-in P (opt_empty o) (l ∷ []) (h.0, tt))) (opt-in any w o (rest-of P (stmts_marks b) _ h.1))))
    kind-in any w l (try (suite f g inline b) cs o fin) h =
        let body = front P (stmts_marks b) _ h.1 in
        let later = rest-of P (stmts_marks b) _ h.1 in
        let last = rest-of P (clauses_marks cs) _ later in
        both P _ _ (may-in any w l h.0)
        (finally_last-in any w fin _ (rest-of P (opt_marks o) _ last)
        (both P _ _ (try-in w (has_clause cs) (opt_empty o) _ _ (both P _ _ (stmts-in any onward b body) (past-in l b h.0)) (stmts-in any w b body))
        (both P _ _ (clauses-in any w cs (front P (clauses_marks cs) _ later)) (opt-in any w o (front P (opt_marks o) _ last)))))
    kind-in any w l (def x ps ds c b) h = own-in onward any w l h.0
    kind-in any w l (match e header cs) h =
        both P _ _ (may-in any w l h.0) (both P _ _ (only-in P (is_onward w) _ (only-in P (not (has_case cs)) (l ∷ []) (h.0, tt))) (cases-in any w cs h.1))

    pub opt-in : (any : Bool) (w : Way) (o : OptSuite) → In P (opt_marks o) → In P (opt_last any w o)
    opt-in any w no_suite h = tt
    opt-in any w (has_suite (suite f l inline b)) h = stmts-in any w b h

    arms-in : (any : Bool) (w : Way) (arms : Arms) (orelse : List ℕ) (passed : Bool) → In P (arms_marks arms) → In P orelse → In P (arms_last any w arms orelse passed)
    arms-in any w no_arms orelse passed h k = k
    arms-in any w (arm t (suite f l inline b) rest) orelse passed h k =
        both P _ _ (may-in any w f h.0)
        (both P _ _ (only-in P (is_onward w) _ (both P _ _ (past-in f b h.0) (only-in P (arms_empty rest passed) (f ∷ []) (h.0, tt))))
        (both P _ _ (stmts-in any w b (front P (stmts_marks b) _ h.1)) (arms-in any w rest orelse passed (rest-of P (stmts_marks b) _ h.1) k)))

    pub clauses-in : (any : Bool) (w : Way) (cs : Clauses) → In P (clauses_marks cs) → In P (clauses_last any w cs)
    clauses-in any w no_clauses h = tt
    clauses-in any w (clause k x (suite f l inline b) rest) h =
        both P _ _ (may-in any w f h.0)
        (both P _ _ (only-in P (is_onward w) _ (past-in f b h.0))
        (both P _ _ (stmts-in any w b (front P (stmts_marks b) _ h.1)) (clauses-in any w rest (rest-of P (stmts_marks b) _ h.1))))

    cases-in : (any : Bool) (w : Way) (cs : Cases) → In P (cases_marks cs) → In P (cases_last any w cs)
    cases-in any w no_cases h = tt
    cases-in any w (case p g (suite f l inline b) rest) h =
        both P _ _ (may-in any w f h.0)
        (both P _ _ (only-in P (is_onward w) _ (both P _ _ (past-in f b h.0) (only-in P (not (is_sure p g) && not (has_case rest)) (f ∷ []) (h.0, tt))))
        (both P _ _ (stmts-in any w b (front P (stmts_marks b) _ h.1)) (cases-in any w rest (rest-of P (stmts_marks b) _ h.1))))

    finally_last-in : (any : Bool) (w : Way) (fin : OptSuite) (came : List ℕ) → In P (opt_marks fin) → In P came → In P (finally_last any w fin came)
    finally_last-in any w no_suite came h c = c
    finally_last-in any w (has_suite (suite f l inline b)) came h c =
        finally-in w (stmts_empty b) came (stmts_last any onward b) (stmts_last any w b) c (stmts-in any onward b h) (stmts-in any w b h)
