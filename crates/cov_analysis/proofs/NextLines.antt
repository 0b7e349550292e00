-- The marks that may follow one another are marks of the statements.
use Rattle.std.proofs.Common.{ℕ, nat_eq, Bool, true, false, not, cond, List, [], ◌∷◌, ◌++◌}
use Rattle.std.specs.List.{AllByRecursion}
use Rattle.py_syntax.specs.Constants.{is_constant}
use Rattle.py_syntax.specs.FirstMarks.{opt_empty, stmts_first, opt_first, arms_first, clauses_first, cases_first}
use Rattle.py_syntax.specs.LastMarks.{Way, onward, breaking, continuing, returning, raising, past, past_try, has_clause, is_sure, stmts_last, kind_last, opt_last, clauses_last}
use Rattle.py_syntax.specs.Marks.{stmts_marks, kind_marks, opt_marks, arms_marks, clauses_marks, cases_marks}
use Rattle.py_syntax.specs.Neighbours.{Pair, followed, joined, turned, by_each_way, names_kind, stmts_pairs, kind_pairs, opt_pairs, arms_pairs, clauses_pairs, cases_pairs}
use Rattle.py_syntax.specs.Tree.{Stmts, no_stmts, stmt, suite, OptSuite, no_suite, has_suite, Arms, no_arms, arm, Clauses, no_clauses, clause, Cases, no_cases, case, StmtKind, expr, assign, aug_assign, pass, break, continue, return, raise, assert, global, import, from, if', while, for, try, def, match}
use Rattle.cov_analysis.proofs.Among.{both, front, rest-of, In, only-in}
use Rattle.cov_analysis.proofs.LastLines.{past-in, try-in, stmts-in, kind-in, opt-in, clauses-in}
use Rattle.cov_analysis.proofs.FirstLines.{first-in, opt_first-in, arms_first-in, clauses_first-in, cases_first-in}

module _ (P : ℕ → Type 0) where
  abbrev pub BothIn : Pair → Type 0
  BothIn p = P p.0 × P p.1

  followed-in : (l : ℕ) (ms : List ℕ) → P l → In P ms → AllByRecursion BothIn (followed l ms)
  followed-in l [] h k = tt
  followed-in l (m ∷ ms) h k = elim (nat_eq l m) as (λ b. AllByRecursion BothIn (cond b (followed l ms) ((l, m) ∷ followed l ms))) [ true ↦ followed-in l ms h k.1 | false ↦ ((h, k.0), followed-in l ms h k.1) ]

  joined-in : (ls ms : List ℕ) → In P ls → In P ms → AllByRecursion BothIn (joined ls ms)
  joined-in [] ms h k = tt
  joined-in (l ∷ ls) ms h k = both BothIn (followed l ms) (joined ls ms) (followed-in l ms h.0 k) (joined-in ls ms h.1 k)

  turned-in : (header : ℕ) (ls : List ℕ) → P header → In P ls → AllByRecursion BothIn (turned header ls)
  turned-in header [] k h = tt
  turned-in header (l ∷ ls) k h = ((h.0, k), turned-in header ls k h.1)

  each-in : (last : Way → List ℕ) → ((w : Way) → In P (last w)) → In P (by_each_way last)
  each-in last h =
      both P _ _ (h onward) (both P _ _ (h breaking) (both P _ _ (h continuing) (both P _ _ (h returning) (h raising))))

  abbrev pub PairsIn : List Pair → Type 0
  PairsIn ps = AllByRecursion BothIn ps

  two : (ps qs : List Pair) → PairsIn ps → PairsIn qs → PairsIn (ps ++ qs)
  two ps qs h k = both BothIn ps qs h k

  mutual
    unfolding stmts_pairs kind_pairs opt_pairs arms_pairs clauses_pairs cases_pairs

    pub stmts-pairs : (any : Bool) (m : Stmts) → In P (stmts_marks m) → PairsIn (stmts_pairs any m)
    stmts-pairs any no_stmts h = tt
    stmts-pairs any (stmt f l k e rest) h =
        let mine = front P (kind_marks f k) _ h in
        two _ _ (kind-pairs any f k mine) (two _ _ (joined-in (kind_last any onward f k) (stmts_first rest) (kind-in P any onward f k mine) (first-in P rest (rest-of P (kind_marks f k) _ h))) (stmts-pairs any rest (rest-of P (kind_marks f k) _ h)))

    kind-pairs : (any : Bool) (l : ℕ) (k : StmtKind) → In P (kind_marks l k) → PairsIn (kind_pairs any l k)
    kind-pairs any l (expr e) h = tt
    kind-pairs any l (assign ts e) h = tt
    kind-pairs any l (aug_assign t op e) h = tt
    kind-pairs any l pass h = tt
    kind-pairs any l break h = tt
    kind-pairs any l continue h = tt
    kind-pairs any l (return e) h = tt
    kind-pairs any l (raise e) h = tt
    kind-pairs any l (assert e why) h = tt
    kind-pairs any l (global xs) h = tt
    kind-pairs any l (import names) h = tt
    kind-pairs any l (from m names) h = tt
    kind-pairs any l (if' arms o) h = two _ _ (arms-pairs any arms (opt_first o) (front P (arms_marks arms) _ h) (opt_first-in P o (rest-of P (arms_marks arms) _ h))) (opt-pairs any o (rest-of P (arms_marks arms) _ h))
    kind-pairs any l (while t (suite f g inline b) o) h =
        let body = front P (stmts_marks b) _ h.1 in
        two _ _ (joined-in (l ∷ []) (stmts_first b) (h.0, tt) (first-in P b body))
        (two _ _ (turned-in l _ h.0 (both P _ _ (stmts-in P any onward b body) (both P _ _ (stmts-in P any continuing b body) (past-in P l b h.0))))
        (two _ _ (joined-in _ (opt_first o) (only-in P (not (is_constant t)) (l ∷ []) (h.0, tt)) (opt_first-in P o (rest-of P (stmts_marks b) _ h.1)))
        (two _ _ (stmts-pairs any b body) (opt-pairs any o (rest-of P (stmts_marks b) _ h.1)))))
    kind-pairs any l (for t e (suite f g inline b) o) h =
        let body = front P (stmts_marks b) _ h.1 in
        two _ _ (joined-in (l ∷ []) (stmts_first b) (h.0, tt) (first-in P b body))
        (two _ _ (turned-in l _ h.0 (both P _ _ (stmts-in P any onward b body) (both P _ _ (stmts-in P any continuing b body) (past-in P l b h.0))))
        (two _ _ (joined-in (l ∷ []) (opt_first o) (h.0, tt) (opt_first-in P o (rest-of P (stmts_marks b) _ h.1)))
        (two _ _ (stmts-pairs any b body) (opt-pairs any o (rest-of P (stmts_marks b) _ h.1)))))
    kind-pairs any l (try (suite f g inline b) cs o fin) h =
        let body = front P (stmts_marks b) _ h.1 in
        let later = rest-of P (stmts_marks b) _ h.1 in
        let last = rest-of P (clauses_marks cs) _ later in
        let handlers = front P (clauses_marks cs) _ later in
        let orelse = front P (opt_marks o) _ last in
        let ended : In P (stmts_last any onward b ++ past l b) = both P _ _ (stmts-in P any onward b body) (past-in P l b h.0) in
        two _ _ (joined-in (l ∷ []) (stmts_first b) (h.0, tt) (first-in P b body))
        (two _ _ (joined-in _ (clauses_first cs) (stmts-in P any raising b body) (clauses_first-in P cs handlers))
        (two _ _ (joined-in _ (opt_first o) ended (opt_first-in P o orelse))
        (two _ _ (joined-in _ (opt_first fin)
        (each-in (λ w. past_try w (has_clause cs) (opt_empty o) (stmts_last any onward b ++ past l b) (stmts_last any w b) ++ (clauses_last any w cs ++ opt_last any w o))
        (λ w. both P _ _ (try-in P w (has_clause cs) (opt_empty o) _ _ ended (stmts-in P any w b body)) (both P _ _ (clauses-in P any w cs handlers) (opt-in P any w o orelse)))) (opt_first-in P fin (rest-of P (opt_marks o) _ last)))
        (two _ _ (stmts-pairs any b body) (two _ _ (clauses-pairs any cs handlers) (two _ _ (opt-pairs any o orelse) (opt-pairs any fin (rest-of P (opt_marks o) _ last))))))))
    kind-pairs any l (def x ps ds c b) h = tt
    kind-pairs any l (match e header cs) h = two _ _ (joined-in (l ∷ []) (cases_first cs) (h.0, tt) (cases_first-in P cs h.1)) (cases-pairs any cs h.1)

    opt-pairs : (any : Bool) (o : OptSuite) → In P (opt_marks o) → PairsIn (opt_pairs any o)
    opt-pairs any no_suite h = tt
    opt-pairs any (has_suite (suite f l inline b)) h = stmts-pairs any b h

    arms-pairs : (any : Bool) (arms : Arms) (orelse : List ℕ) → In P (arms_marks arms) → In P orelse → PairsIn (arms_pairs any arms orelse)
    arms-pairs any no_arms orelse h k = tt
    arms-pairs any (arm t (suite f l inline b) rest) orelse h k =
        let body = front P (stmts_marks b) _ h.1 in
        let later = rest-of P (stmts_marks b) _ h.1 in
        two _ _ (joined-in (f ∷ []) (stmts_first b) (h.0, tt) (first-in P b body)) (two _ _ (joined-in (f ∷ []) (arms_first rest orelse) (h.0, tt) (arms_first-in P rest orelse later k))
        (two _ _ (stmts-pairs any b body) (arms-pairs any rest orelse later k)))

    clauses-pairs : (any : Bool) (cs : Clauses) → In P (clauses_marks cs) → PairsIn (clauses_pairs any cs)
    clauses-pairs any no_clauses h = tt
    clauses-pairs any (clause k x (suite f l inline b) rest) h =
        two _ _ (joined-in (f ∷ []) (stmts_first b) (h.0, tt) (first-in P b (front P (stmts_marks b) _ h.1))) (two _ _ (joined-in _ (clauses_first rest) (only-in P (names_kind k) (f ∷ []) (h.0, tt)) (clauses_first-in P rest (rest-of P (stmts_marks b) _ h.1)))
        (two _ _ (stmts-pairs any b (front P (stmts_marks b) _ h.1)) (clauses-pairs any rest (rest-of P (stmts_marks b) _ h.1))))

    cases-pairs : (any : Bool) (cs : Cases) → In P (cases_marks cs) → PairsIn (cases_pairs any cs)
    cases-pairs any no_cases h = tt
    cases-pairs any (case p g (suite f l inline b) rest) h =
        two _ _ (joined-in (f ∷ []) (stmts_first b) (h.0, tt) (first-in P b (front P (stmts_marks b) _ h.1))) (two _ _ (joined-in _ (cases_first rest) (only-in P (not (is_sure p g)) (f ∷ []) (h.0, tt)) (cases_first-in P rest (rest-of P (stmts_marks b) _ h.1)))
        (two _ _ (stmts-pairs any b (front P (stmts_marks b) _ h.1)) (cases-pairs any rest (rest-of P (stmts_marks b) _ h.1))))
