-- The walk has the arcs of the pairs of neighbouring marks, and those of the last marks by each way.
use Rattle.std.proofs.Common.{◌≡◌, ℕ, pos, Bool, true, false, List, [], refl, ap, sym, ◌∙◌}
use Rattle.std.specs.Prelude.{◌||◌, ◌&&◌, not}
use Rattle.std.proofs.Math.Bool.{or_assoc}
use Rattle.py_syntax.specs.Constants.{is_constant}
use Rattle.py_syntax.specs.FirstMarks as first_
use Rattle.py_syntax.specs.FirstMarks.{stmts_empty, kind_empty, opt_empty, arms_empty, stmts_first, kind_first, opt_first, arms_first, clauses_first, cases_first}
use Rattle.py_syntax.specs.LastMarks as last_
use Rattle.py_syntax.specs.LastMarks.{Way, onward, breaking, continuing, returning, raising, is_onward, own_way, past, past_try, has_clause, has_case, is_sure, comes, stmts_last, kind_last, opt_last, arms_last, clauses_last, cases_last, finally_last}
use Rattle.py_syntax.specs.Neighbours as neighbours_
use Rattle.py_syntax.specs.Neighbours.{names_kind, joined, by_each_way, stmts_pairs, kind_pairs, opt_pairs, arms_pairs, clauses_pairs, cases_pairs}
use Rattle.py_syntax.specs.Prediction.{Arc}
use Rattle.py_syntax.specs.Tree.{Stmts, no_stmts, stmt, suite, OptSuite, no_suite, has_suite, Arms, no_arms, arm, Clauses, no_clauses, clause, Cases, no_cases, case, StmtKind, expr, assign, aug_assign, pass, break, continue, return, raise, assert, global, import, from, if', while, for, try, def, match}
use Rattle.cov_predict.specs.Walk.{Targets, own_walk, in_loop, before, before_finally, in_try, united, came_last, stmts_walk, kind_walk, opt_walk, arms_walk, clauses_walk, cases_walk}
use Rattle.cov_predict.proofs.Hits.{hits, hits-none, hits-arcs_to, has_pair, has_pair-none, or_false}
use Rattle.cov_predict.proofs.ByWay.{ways, ways-none, hits-own_walk, own-onward, own-breaking, own-continuing, own-returning, own-raising}
use Rattle.cov_predict.proofs.Forms.{in-a-row, a-loop, an-arm, an-if, a-clause, a-case, a-match}
use Rattle.cov_predict.proofs.Finally.{through, left-finally, a-try}

-- what has to unfold for a prediction to compute
unfoldable pub computes : Unit {0}
unfolding first_.stmts_empty first_.kind_empty first_.opt_empty first_.stmts_first first_.kind_first first_.opt_first last_.stmts_last last_.kind_last last_.opt_last last_.arms_last last_.clauses_last last_.cases_last last_.finally_last neighbours_.stmts_pairs neighbours_.kind_pairs neighbours_.opt_pairs neighbours_.arms_pairs neighbours_.clauses_pairs neighbours_.cases_pairs
computes = tt

around-finally : (j w p l : Bool) → ((j || w) || (p || l)) ≡ (j || (p || (w || l)))
around-finally true w p l = refl
around-finally false true true l = refl
around-finally false true false l = refl
around-finally false false p l = refl

module _ (q : Arc) where
  nothing : (t : Targets) → hits q [] ≡ (has_pair q [] || ways q (λ w. []) t)
  nothing t = hits-none q ∙ sym (ap (λ b. b || ways q (λ w. []) t) (has_pair-none q) ∙ ways-none q t)

  -- no pairs stand in a simple statement
  simple : {h w : Bool} → h ≡ w → h ≡ (has_pair q [] || w)
  simple {w = w} e = e ∙ sym (ap (λ b. b || w) (has_pair-none q))

  goes-on : (any : Bool) (t : Targets) (l : ℕ) → hits q (own_walk any t (pos l) t.onward) ≡ (has_pair q [] || ways q (λ w. own_way onward any w l) t)
  goes-on any t l = simple (hits-own_walk q any t l t.onward ∙ sym (own-onward q any l t))

  mutual
    unfolding computes

    pub stmts-law : (any : Bool) (t : Targets) (b : Stmts) → hits q (stmts_walk any t b) ≡ (has_pair q (stmts_pairs any b) || ways q (λ w. stmts_last any w b) t)
    stmts-law any t no_stmts = nothing t
    stmts-law any t (stmt l m k e rest) =
        in-a-row q (stmts_first rest) (stmts_empty rest) t (kind_walk any (before (stmts_first rest) (stmts_empty rest) t) l k) (stmts_walk any t rest) (kind_pairs any l k) (stmts_pairs any rest)
        (λ w. kind_last any w l k) (λ w. stmts_last any w rest)
        (kind-law any (before (stmts_first rest) (stmts_empty rest) t) l k) (stmts-law any t rest)

    pub kind-law : (any : Bool) (t : Targets) (l : ℕ) (k : StmtKind) → hits q (kind_walk any t l k) ≡ (has_pair q (kind_pairs any l k) || ways q (λ w. kind_last any w l k) t)
    kind-law any t l (expr e) = goes-on any t l
    kind-law any t l (assign ts e) = goes-on any t l
    kind-law any t l (aug_assign p op e) = goes-on any t l
    kind-law any t l pass = goes-on any t l
    kind-law any t l break = simple (hits-own_walk q any t l t.breaking ∙ sym (own-breaking q any l t))
    kind-law any t l continue = simple (hits-own_walk q any t l t.continuing ∙ sym (own-continuing q any l t))
    kind-law any t l (return e) = simple (hits-own_walk q any t l t.returning ∙ sym (own-returning q any l t))
    kind-law any t l (raise e) = simple (hits-arcs_to q l t.raising ∙ sym (own-raising q any l t))
    kind-law any t l (assert e why) = goes-on any t l
    kind-law any t l (global xs) = nothing t
    kind-law any t l (import names) = goes-on any t l
    kind-law any t l (from m names) = goes-on any t l
    kind-law any t l (if' arms o) =
        an-if q t (arms_walk any t arms (opt_first o) (opt_empty o)) (opt_walk any t o) (arms_pairs any arms (opt_first o)) (opt_pairs any o)
        (λ w. arms_last any w arms (opt_last any w o) (opt_empty o)) (λ w. opt_last any w o)
        (arms-law any t arms (opt_first o) (opt_empty o) (λ w. opt_last any w o)) (opt-law any t o)
    kind-law any t l (while e (suite f g inline b) o) =
        a-loop q any (is_constant e) (stmts_empty b) (opt_empty o) l t (stmts_first b) (opt_first o) (stmts_walk any (in_loop (pos l) t) b) (opt_walk any t o)
        (stmts_pairs any b) (opt_pairs any o) (λ w. stmts_last any w b) (λ w. opt_last any w o)
        (stmts-law any (in_loop (pos l) t) b) (opt-law any t o)
    kind-law any t l (for x e (suite f g inline b) o) =
        a-loop q any false (stmts_empty b) (opt_empty o) l t (stmts_first b) (opt_first o) (stmts_walk any (in_loop (pos l) t) b) (opt_walk any t o)
        (stmts_pairs any b) (opt_pairs any o) (λ w. stmts_last any w b) (λ w. opt_last any w o)
        (stmts-law any (in_loop (pos l) t) b) (opt-law any t o)
    kind-law any t l (try (suite f g inline b) cs o fin) =
        let inner = before_finally fin t in
        let after = record t { onward = united (λ w. comes (came_last any l (suite f g inline b) cs o w)) t } in
        a-try q any (stmts_empty b) (opt_empty o) (has_clause cs) l t inner (stmts_first b) (clauses_first cs) (opt_first o) (opt_first fin)
        (stmts_walk any (in_try cs o inner) b) (clauses_walk any inner cs) (opt_walk any inner o) (opt_walk any after fin)
        (stmts_pairs any b) (clauses_pairs any cs) (opt_pairs any o) (opt_pairs any fin)
        (λ w. stmts_last any w b) (λ w. clauses_last any w cs) (λ w. opt_last any w o) (λ w. finally_last any w fin (came_last any l (suite f g inline b) cs o w))
        (stmts-law any (in_try cs o inner) b) (clauses-law any inner cs) (opt-law any inner o)
        (finally-law any t (came_last any l (suite f g inline b) cs o) fin)
    kind-law any t l (def x ps ds c b) = goes-on any t l
    kind-law any t l (match e header cs) =
        a-match q any (not (has_case cs)) l t (cases_first cs) (cases_walk any t cs) (cases_pairs any cs) (λ w. cases_last any w cs) (cases-law any t cs)

    pub opt-law : (any : Bool) (t : Targets) (o : OptSuite) → hits q (opt_walk any t o) ≡ (has_pair q (opt_pairs any o) || ways q (λ w. opt_last any w o) t)
    opt-law any t no_suite = nothing t
    opt-law any t (has_suite (suite f g inline b)) = stmts-law any t b

    pub arms-law : (any : Bool) (t : Targets) (arms : Arms) (first : List ℕ) (passed : Bool) (orelse : Way → List ℕ)
        → (hits q (arms_walk any t arms first passed) || ways q orelse t) ≡ (has_pair q (arms_pairs any arms first) || ways q (λ w. arms_last any w arms (orelse w) passed) t)
    arms-law any t no_arms first passed orelse = ap (λ b. b || ways q orelse t) (hits-none q ∙ sym (has_pair-none q))
    arms-law any t (arm e (suite f g inline b) rest) first passed orelse =
        an-arm q any (stmts_empty b) (arms_empty rest passed) f t (stmts_first b) (arms_first rest first) (stmts_walk any t b) (arms_walk any t rest first passed)
        (stmts_pairs any b) (arms_pairs any rest first) (λ w. stmts_last any w b) (λ w. arms_last any w rest (orelse w) passed) (ways q orelse t)
        (stmts-law any t b) (arms-law any t rest first passed orelse)

    pub clauses-law : (any : Bool) (t : Targets) (cs : Clauses) → hits q (clauses_walk any t cs) ≡ (has_pair q (clauses_pairs any cs) || ways q (λ w. clauses_last any w cs) t)
    clauses-law any t no_clauses = nothing t
    clauses-law any t (clause k x (suite f g inline b) rest) =
        a-clause q any (stmts_empty b) (not (has_clause rest)) (names_kind k) f t (stmts_first b) (clauses_first rest) (stmts_walk any t b) (clauses_walk any t rest)
        (stmts_pairs any b) (clauses_pairs any rest) (λ w. stmts_last any w b) (λ w. clauses_last any w rest)
        (stmts-law any t b) (clauses-law any t rest)

    pub cases-law : (any : Bool) (t : Targets) (cs : Cases) → hits q (cases_walk any t cs) ≡ (has_pair q (cases_pairs any cs) || ways q (λ w. cases_last any w cs) t)
    cases-law any t no_cases = nothing t
    cases-law any t (case p guard (suite f g inline b) rest) =
        a-case q any (stmts_empty b) (not (has_case rest)) (is_sure p guard) f t (stmts_first b) (cases_first rest) (stmts_walk any t b) (cases_walk any t rest)
        (stmts_pairs any b) (cases_pairs any rest) (λ w. stmts_last any w b) (λ w. cases_last any w rest)
        (stmts-law any t b) (cases-law any t rest)

    pub finally-law : (any : Bool) (t : Targets) (came : Way → List ℕ) (fin : OptSuite)
        → (ways q came (before_finally fin t) || hits q (opt_walk any (record t { onward = united (λ w. comes (came w)) t }) fin))
        ≡ (has_pair q (joined (by_each_way came) (opt_first fin)) || (has_pair q (opt_pairs any fin) || ways q (λ w. finally_last any w fin (came w)) t))
    finally-law any t came no_suite =
        ap (λ b. b || hits q []) (through q [] true came t)
        ∙ or_assoc (has_pair q (joined (by_each_way came) [])) (ways q came t) (hits q [])
        ∙ ap (λ b. has_pair q (joined (by_each_way came) []) || b) (ap (λ b. ways q came t || b) (hits-none q) ∙ or_false (ways q came t) ∙ sym (ap (λ b. b || ways q came t) (has_pair-none q)))
    finally-law any t came (has_suite (suite f g inline b)) =
        let after = record t { onward = united (λ w. comes (came w)) t } in
        ap (λ z. z || hits q (stmts_walk any after b)) (through q (stmts_first b) (stmts_empty b) came t)
        ∙ ap (λ z. (has_pair q (joined (by_each_way came) (stmts_first b)) || (stmts_empty b && ways q came t)) || z) (stmts-law any after b)
        ∙ around-finally (has_pair q (joined (by_each_way came) (stmts_first b))) (stmts_empty b && ways q came t) (has_pair q (stmts_pairs any b)) (ways q (λ w. stmts_last any w b) after)
        ∙ ap (λ z. has_pair q (joined (by_each_way came) (stmts_first b)) || (has_pair q (stmts_pairs any b) || z)) (sym (left-finally q (stmts_empty b) came (λ w. stmts_last any w b) t))
