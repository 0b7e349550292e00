-- Parts in a row, one by one: what the walk adds at each, and by which ways it may be left.
use Rattle.std.proofs.Common.{◌≡◌, ℕ, ◌+◌, ◌<◌, Bool, true, false, Option, Some, None, Result, Ok, Err, OnOk, IfOk, List, [], ◌∷◌, ◌++◌, length, drop, get_or, refl, ap, sym, ◌∙◌, append_assoc, pos}
use Rattle.std.proofs.lemmas.Bool.{false≢true}
use Rattle.std.proofs.lemmas.List.{append-nil}
use Rattle.std.proofs.Math.Bool.{or_assoc}
use Rattle.std.specs.Prelude.{◌||◌, ◌&&◌, not, is_some, option_map}
use Rattle.py_syntax.specs.declared.expr.Expr.{Expr as ExprNode}
use Rattle.py_syntax.specs.declared.stmt.Arm.{Arm, out-Arm}
use Rattle.py_syntax.specs.declared.stmt.Arm as arm_
use Rattle.py_syntax.specs.declared.stmt.Case.{Case, out-Case}
use Rattle.py_syntax.specs.declared.stmt.Case as case_
use Rattle.py_syntax.specs.declared.stmt.Clause.{Clause, out-Clause}
use Rattle.py_syntax.specs.declared.stmt.Clause as clause_
use Rattle.py_syntax.specs.declared.stmt.LineEnd.{LineEnd}
use Rattle.py_syntax.specs.declared.stmt.Stmt.{Stmt, out-Stmt}
use Rattle.py_syntax.specs.declared.stmt.Suite.{Suite as SuiteNode, out-Suite}
use Rattle.py_syntax.specs.declared.stmt.Suite as suite_
use Rattle.py_syntax.specs.FirstMarks.{only, stmts_first, stmts_empty, opt_empty, arms_first, arms_empty, clauses_first, cases_first}
use Rattle.py_syntax.specs.LastMarks as last_
use Rattle.py_syntax.specs.LastMarks.{Way, onward, breaking, is_onward, may_raise, onward_only, past, past_loop, past_try, past_finally, comes, has_clause, has_case, is_sure, stmts_last, kind_last, opt_last, arms_last, clauses_last, cases_last, finally_last}
use Rattle.py_syntax.specs.Neighbours.{names_kind}
use Rattle.py_syntax.specs.Prediction.{Arc}
use Rattle.py_syntax.specs.Tree.{Expr, Pattern, Text, Stmts, StmtKind as Kind, no_stmts, stmt, Suite, suite, OptSuite, no_suite, has_suite, Arms, no_arms, arm, Clauses, no_clauses, clause, Cases, no_cases, case}
use Rattle.py_syntax.specs.View.{plain_expr, plain_pattern, plain_stmts, plain_kind, plain_suite, plain_opt_suite, plain_arms, plain_clauses, plain_cases}
use Rattle.cov_predict.specs.Leaving.{IsFirst, way_of, IsLeft, plain_option}
use Rattle.cov_predict.specs.Parts.{headed_walk, headed_last, suite_last, turns_last, ended_last}
use Rattle.cov_predict.specs.Steps.{MayRaise, Unites, GoesOnward, LeavesLoop, LeavesTry, GoesThrough, IsPastFinally}
use Rattle.cov_predict.specs.Walk.{Target, Targets, arcs_to, unless, entering, before, header_line, stmts_walk, kind_walk, suite_walk, opt_walk, arms_walk, clauses_walk, cases_walk}
use Rattle.cov_predict.specs.declared.ways.Ways.{Ways}
use Rattle.cov_predict.proofs.Gathering.{the_drop}
use Rattle.cov_predict.proofs.Left.{comes-append, comes-mark, either, first-empty, three_ways, next_ways}
use Rattle.cov_predict.proofs.Turns.{plain-Stmts}

-- ---- statements

pub the-row : (xs : List Stmt) (i : ℕ) (s : Stmt) → i < length xs → s ≡ get_or xs i s
    → plain_stmts (drop i xs) ≡ stmt (out-Stmt s).first (out-Stmt s).last (plain_kind (out-Stmt s).kind) (out-Stmt s).end (plain_stmts (drop (i + 1) xs))
the-row xs i s lt is = ap plain_stmts (the_drop xs i s lt is) ∙ plain-Stmts s (drop (i + 1) xs)

pub walk-turn : (any : Bool) (t t' : Targets) (now next was : List Arc) (xs : List Stmt) (i : ℕ) (s : Stmt) → i < length xs → s ≡ get_or xs i s
    → t' ≡ before (stmts_first (plain_stmts (drop (i + 1) xs))) (stmts_empty (plain_stmts (drop (i + 1) xs))) t
    → next ≡ now ++ kind_walk any t' (out-Stmt s).first (plain_kind (out-Stmt s).kind)
    → now ++ stmts_walk any t (plain_stmts (drop i xs)) ≡ was → next ++ stmts_walk any t (plain_stmts (drop (i + 1) xs)) ≡ was
walk-turn any t t' now next was xs i s lt is same e h =
    let rest = plain_stmts (drop (i + 1) xs) in
    ap (λ k. k ++ stmts_walk any t rest) (e ∙ ap (λ z. now ++ kind_walk any z (out-Stmt s).first (plain_kind (out-Stmt s).kind)) same)
    ∙ append_assoc now (kind_walk any (before (stmts_first rest) (stmts_empty rest) t) (out-Stmt s).first (plain_kind (out-Stmt s).kind)) (stmts_walk any t rest)
    ∙ ap (λ z. now ++ stmts_walk any t z) (sym (the-row xs i s lt is))
    ∙ h

row-comes : (any : Bool) (w : Way) (f l : ℕ) (k : Kind) (e : LineEnd) (rest : Stmts)
    → comes (stmts_last any w (stmt f l k e rest)) ≡ (comes (only (not (is_onward w) || stmts_empty rest) (kind_last any w f k)) || comes (stmts_last any w rest))
unfolding last_.stmts_last
row-comes any w f l k e rest = comes-append (only (not (is_onward w) || stmts_empty rest) (kind_last any w f k)) (stmts_last any w rest)

pub last-turn : (any : Bool) (w : Way) (xs : List Stmt) (i : ℕ) (s : Stmt) → i < length xs → s ≡ get_or xs i s
    → comes (stmts_last any w (plain_stmts (drop i xs)))
    ≡ (comes (only (not (is_onward w) || stmts_empty (plain_stmts (drop (i + 1) xs))) (kind_last any w (out-Stmt s).first (plain_kind (out-Stmt s).kind))) || comes (stmts_last any w (plain_stmts (drop (i + 1) xs))))
last-turn any w xs i s lt is =
    ap (λ z. comes (stmts_last any w z)) (the-row xs i s lt is)
    ∙ row-comes any w (out-Stmt s).first (out-Stmt s).last (plain_kind (out-Stmt s).kind) (out-Stmt s).end (plain_stmts (drop (i + 1) xs))

pub no-rows : (any : Bool) (w : Way) → stmts_last any w no_stmts ≡ []
unfolding last_.stmts_last
no-rows any w = refl

-- ---- headers with suites

regroup : (a b c d : List ℕ) → comes (a ++ (b ++ (c ++ d))) ≡ (comes (a ++ (b ++ c)) || comes d)
regroup a b c d = ap comes (ap (λ z. a ++ z) (sym (append_assoc b c d)) ∙ sym (append_assoc a (b ++ c) d)) ∙ comes-append (a ++ (b ++ c)) d

pub arm-comes : (any : Bool) (w : Way) (e : Expr) (s : Suite) (rest : Arms) (orelse : List ℕ) (passed : Bool)
    → comes (arms_last any w (arm e s rest) orelse passed) ≡ (comes (headed_last any w s (arms_empty rest passed)) || comes (arms_last any w rest orelse passed))
unfolding last_.arms_last
arm-comes any w e (suite f g inline b) rest orelse passed = regroup (may_raise any w f) (onward_only w (past f b ++ only (arms_empty rest passed) (f ∷ []))) (stmts_last any w b) (arms_last any w rest orelse passed)

pub arms-apart : (any : Bool) (w : Way) (arms : Arms) (orelse : List ℕ) (passed : Bool) → comes (arms_last any w arms orelse passed) ≡ (comes (arms_last any w arms [] passed) || comes orelse)
unfolding last_.arms_last
arms-apart any w no_arms orelse passed = refl
arms-apart any w (arm e s rest) orelse passed =
    arm-comes any w e s rest orelse passed
    ∙ ap (λ z. comes (headed_last any w s (arms_empty rest passed)) || z) (arms-apart any w rest orelse passed)
    ∙ sym (or_assoc (comes (headed_last any w s (arms_empty rest passed))) (comes (arms_last any w rest [] passed)) (comes orelse))
    ∙ ap (λ z. z || comes orelse) (sym (arm-comes any w e s rest [] passed))

pub clause-comes : (any : Bool) (w : Way) (k : Option Expr) (x : Option Text) (s : Suite) (rest : Clauses)
    → comes (clauses_last any w (clause k x s rest)) ≡ (comes (headed_last any w s false) || comes (clauses_last any w rest))
unfolding last_.clauses_last
clause-comes any w k x (suite f g inline b) rest =
    regroup (may_raise any w f) (onward_only w (past f b)) (stmts_last any w b) (clauses_last any w rest)
    ∙ ap (λ z. comes (may_raise any w f ++ (onward_only w z ++ stmts_last any w b)) || comes (clauses_last any w rest)) (sym (append-nil (past f b)))

pub case-comes : (any : Bool) (w : Way) (p : Pattern) (guard : Option Expr) (s : Suite) (rest : Cases)
    → comes (cases_last any w (case p guard s rest)) ≡ (comes (headed_last any w s (not (is_sure p guard) && not (has_case rest))) || comes (cases_last any w rest))
unfolding last_.cases_last
case-comes any w p guard (suite f g inline b) rest =
    regroup (may_raise any w f) (onward_only w (past f b ++ only (not (is_sure p guard) && not (has_case rest)) (f ∷ []))) (stmts_last any w b) (cases_last any w rest)

-- ---- suites, and headers in a row

plain-Suite : (s : SuiteNode) → plain_suite s ≡ suite (out-Suite s).first (out-Suite s).last (out-Suite s).inline (plain_stmts (out-Suite s).body.items)
plain-Suite s = search suite_.the_lemmas

pub suite_empty : Suite → Bool
suite_empty (suite f g inline b) = stmts_empty b

pub empty-suite : (s : SuiteNode) (slice : List Stmt) (r : Option ℕ) (b : Bool) → slice ≡ (out-Suite s).body.items
    → IsFirst r (stmts_first (plain_stmts slice)) (stmts_empty (plain_stmts slice)) → is_some r ≡ not b → b ≡ suite_empty (plain_suite s)
unfolding suite_empty
empty-suite s slice r b same h k =
    first-empty r (stmts_first (plain_stmts slice)) (stmts_empty (plain_stmts slice)) h b k
    ∙ ap (λ z. stmts_empty (plain_stmts z)) same
    ∙ ap suite_empty (sym (plain-Suite s))

headed-is : (any : Bool) (w : Way) (s : Suite) (leaves : Bool)
    → headed_last any w s leaves ≡ may_raise any w (header_line s) ++ (onward_only w (only (suite_empty s) (header_line s ∷ []) ++ only leaves (header_line s ∷ [])) ++ suite_last any w s)
unfolding suite_empty
headed-is any w (suite f g inline b) leaves = refl

pub headed-left : (any : Bool) (s : Suite) (leaves empty marks : Bool) (taken header onward' inner whole : Ways) → empty ≡ suite_empty s → marks ≡ (empty || leaves)
    → IsLeft taken (λ w. suite_last any w s) → MayRaise any header → GoesOnward marks onward' → Unites onward' taken inner → Unites header inner whole
    → IsLeft whole (λ w. headed_last any w s leaves)
headed-left any s leaves empty marks taken header onward' inner whole e m h r o u v w =
    three_ways any (header_line s) marks (only (suite_empty s) (header_line s ∷ []) ++ only leaves (header_line s ∷ [])) (λ w. suite_last any w s) taken header onward' inner whole
    (m ∙ either empty (comes (only (suite_empty s) (header_line s ∷ []))) leaves (comes (only leaves (header_line s ∷ []))) (e ∙ sym (comes-mark (suite_empty s) (header_line s))) (sym (comes-mark leaves (header_line s)))
    ∙ sym (comes-append (only (suite_empty s) (header_line s ∷ [])) (only leaves (header_line s ∷ []))))
    h r o u v w
    ∙ ap comes (sym (headed-is any w s leaves))

pub turns-is : (any : Bool) (w : Way) (l : ℕ) (s : Suite) → turns_last any w l s ≡ may_raise any w l ++ past_loop w (suite_last any breaking s) (suite_last any w s)
turns-is any w l (suite f g inline b) = refl

pub turns-left : (any : Bool) (l : ℕ) (s : Suite) (taken header past' whole : Ways) → IsLeft taken (λ w. suite_last any w s) → MayRaise any header → LeavesLoop taken past' → Unites header past' whole
    → IsLeft whole (λ w. turns_last any w l s)
turns-left any l s taken header past' whole h r p u w =
    u (λ w. may_raise any w l) (λ w. past_loop w (suite_last any breaking s) (suite_last any w s)) (r l) (p (λ w. suite_last any w s) h) w
    ∙ ap comes (sym (turns-is any w l s))

ended-is : (any : Bool) (w : Way) (l : ℕ) (s : Suite) (cs : Clauses) (o : OptSuite)
    → ended_last any w l s cs o ≡ past_try w (has_clause cs) (opt_empty o) (suite_last any onward s ++ only (suite_empty s) (l ∷ [])) (suite_last any w s)
unfolding suite_empty
ended-is any w l (suite f g inline b) cs o = refl

pub ended-left : (any : Bool) (l : ℕ) (s : Suite) (cs : Clauses) (o : OptSuite) (empty tried passed : Bool) (taken whole : Ways)
    → empty ≡ suite_empty s → tried ≡ has_clause cs → passed ≡ opt_empty o → IsLeft taken (λ w. suite_last any w s) → LeavesTry empty tried passed taken whole
    → IsLeft whole (λ w. ended_last any w l s cs o)
ended-left any l s cs o empty tried passed taken whole e1 e2 e3 h u w =
    u l (λ w. suite_last any w s) h w
    ∙ ap (λ z. comes (past_try w tried passed (suite_last any onward s ++ only z (l ∷ [])) (suite_last any w s))) e1
    ∙ ap (λ z. comes (past_try w z passed (suite_last any onward s ++ only (suite_empty s) (l ∷ [])) (suite_last any w s))) e2
    ∙ ap (λ z. comes (past_try w (has_clause cs) z (suite_last any onward s ++ only (suite_empty s) (l ∷ [])) (suite_last any w s))) e3
    ∙ ap comes (sym (ended-is any w l s cs o))

-- one header with its suite, and then the others
header-turn : (now next was head rest all : List Arc) → all ≡ head ++ rest → next ≡ now ++ head → now ++ all ≡ was → next ++ rest ≡ was
header-turn now next was head rest all e f h = ap (λ z. z ++ rest) f ∙ append_assoc now head rest ∙ ap (λ z. now ++ z) (sym e) ∙ h

plain-Arms : (a : Arm) (rest : List Arm) → plain_arms (a ∷ rest) ≡ arm (plain_expr (out-Arm a).test) (plain_suite (out-Arm a).body) (plain_arms rest)
plain-Arms a rest = search arm_.the_lemmas

arm-row : (xs : List Arm) (i : ℕ) (a : Arm) → i < length xs → a ≡ get_or xs i a → plain_arms (drop i xs) ≡ arm (plain_expr (out-Arm a).test) (plain_suite (out-Arm a).body) (plain_arms (drop (i + 1) xs))
arm-row xs i a lt is = ap plain_arms (the_drop xs i a lt is) ∙ plain-Arms a (drop (i + 1) xs)

arm-walk : (any : Bool) (t : Targets) (e : Expr) (s : Suite) (rest : Arms) (ms : List ℕ) (passed : Bool)
    → arms_walk any t (arm e s rest) ms passed ≡ headed_walk any t s false (entering (arms_first rest ms) (arms_empty rest passed) t.onward) ++ arms_walk any t rest ms passed
arm-walk any t e s rest ms passed =
    sym (append_assoc (suite_walk any t t (header_line s) s) (unless false (arcs_to (pos (header_line s)) (entering (arms_first rest ms) (arms_empty rest passed) t.onward))) (arms_walk any t rest ms passed))

pub arm-turn : (any : Bool) (t : Targets) (now next was : List Arc) (xs : List Arm) (i : ℕ) (a : Arm) (ms : List ℕ) (passed : Bool) (after : List Target) → i < length xs → a ≡ get_or xs i a
    → after ≡ entering (arms_first (plain_arms (drop (i + 1) xs)) ms) (arms_empty (plain_arms (drop (i + 1) xs)) passed) t.onward
    → next ≡ now ++ headed_walk any t (plain_suite (out-Arm a).body) false after
    → now ++ arms_walk any t (plain_arms (drop i xs)) ms passed ≡ was → next ++ arms_walk any t (plain_arms (drop (i + 1) xs)) ms passed ≡ was
arm-turn any t now next was xs i a ms passed after lt is same e h =
    let rest = plain_arms (drop (i + 1) xs) in
    let s = plain_suite (out-Arm a).body in
    header-turn now next was (headed_walk any t s false (entering (arms_first rest ms) (arms_empty rest passed) t.onward)) (arms_walk any t rest ms passed) (arms_walk any t (plain_arms (drop i xs)) ms passed)
    (ap (λ z. arms_walk any t z ms passed) (arm-row xs i a lt is) ∙ arm-walk any t (plain_expr (out-Arm a).test) s rest ms passed)
    (e ∙ ap (λ z. now ++ headed_walk any t s false z) same)
    h

pub arm-left : (any : Bool) (left by next : Ways) (xs : List Arm) (i : ℕ) (a : Arm) (passed leaves : Bool) → i < length xs → a ≡ get_or xs i a
    → leaves ≡ arms_empty (plain_arms (drop (i + 1) xs)) passed → IsLeft by (λ w. headed_last any w (plain_suite (out-Arm a).body) leaves) → Unites left by next
    → (w : Way) (total : Bool) → (way_of left w || comes (arms_last any w (plain_arms (drop i xs)) [] passed)) ≡ total → (way_of next w || comes (arms_last any w (plain_arms (drop (i + 1) xs)) [] passed)) ≡ total
arm-left any left by next xs i a passed leaves lt is same h u w total k =
    let rest = plain_arms (drop (i + 1) xs) in
    let s = plain_suite (out-Arm a).body in
    next_ways left by next (λ w. headed_last any w s (arms_empty rest passed)) u (λ w. h w ∙ ap (λ z. comes (headed_last any w s z)) same)
    w (comes (arms_last any w (plain_arms (drop i xs)) [] passed)) (comes (arms_last any w rest [] passed)) total
    (ap (λ z. comes (arms_last any w z [] passed)) (arm-row xs i a lt is) ∙ arm-comes any w (plain_expr (out-Arm a).test) s rest [] passed)
    k

plain-Clauses : (a : Clause) (rest : List Clause) → plain_clauses (a ∷ rest) ≡ clause (option_map plain_expr (out-Clause a).kind) (out-Clause a).name (plain_suite (out-Clause a).body) (plain_clauses rest)
plain-Clauses a rest = search clause_.the_lemmas

clause-row : (xs : List Clause) (i : ℕ) (a : Clause) → i < length xs → a ≡ get_or xs i a
    → plain_clauses (drop i xs) ≡ clause (option_map plain_expr (out-Clause a).kind) (out-Clause a).name (plain_suite (out-Clause a).body) (plain_clauses (drop (i + 1) xs))
clause-row xs i a lt is = ap plain_clauses (the_drop xs i a lt is) ∙ plain-Clauses a (drop (i + 1) xs)

bare-is : (o : Option ExprNode) (b : Bool) → is_some o ≡ not b → b ≡ not (names_kind (option_map plain_expr o))
bare-is None true k = refl
bare-is None false k = absurd (false≢true k)
bare-is (Some e) true k = absurd (false≢true (sym k))
bare-is (Some e) false k = refl

pub clause-turn : (any : Bool) (t : Targets) (now next was : List Arc) (xs : List Clause) (i : ℕ) (a : Clause) (bare : Bool) (after : List Target) → i < length xs → a ≡ get_or xs i a
    → is_some (out-Clause a).kind ≡ not bare
    → after ≡ entering (clauses_first (plain_clauses (drop (i + 1) xs))) (not (has_clause (plain_clauses (drop (i + 1) xs)))) []
    → next ≡ now ++ headed_walk any t (plain_suite (out-Clause a).body) bare after
    → now ++ clauses_walk any t (plain_clauses (drop i xs)) ≡ was → next ++ clauses_walk any t (plain_clauses (drop (i + 1) xs)) ≡ was
clause-turn any t now next was xs i a bare after lt is named same e h =
    let rest = plain_clauses (drop (i + 1) xs) in
    let s = plain_suite (out-Clause a).body in
    let k = option_map plain_expr (out-Clause a).kind in
    let to = entering (clauses_first rest) (not (has_clause rest)) [] in
    header-turn now next was (headed_walk any t s (not (names_kind k)) to) (clauses_walk any t rest) (clauses_walk any t (plain_clauses (drop i xs)))
    (ap (λ z. clauses_walk any t z) (clause-row xs i a lt is)
    ∙ sym (append_assoc (suite_walk any t t (header_line s) s) (unless (not (names_kind k)) (arcs_to (pos (header_line s)) to)) (clauses_walk any t rest)))
    (e ∙ ap (λ z. now ++ headed_walk any t s bare z) same ∙ ap (λ z. now ++ headed_walk any t s z to) (bare-is (out-Clause a).kind bare named))
    h

pub clause-left : (any : Bool) (left by next : Ways) (xs : List Clause) (i : ℕ) (a : Clause) → i < length xs → a ≡ get_or xs i a
    → IsLeft by (λ w. headed_last any w (plain_suite (out-Clause a).body) false) → Unites left by next
    → (w : Way) (total : Bool) → (way_of left w || comes (clauses_last any w (plain_clauses (drop i xs)))) ≡ total → (way_of next w || comes (clauses_last any w (plain_clauses (drop (i + 1) xs)))) ≡ total
clause-left any left by next xs i a lt is h u w total k =
    let rest = plain_clauses (drop (i + 1) xs) in
    let s = plain_suite (out-Clause a).body in
    next_ways left by next (λ w. headed_last any w s false) u h
    w (comes (clauses_last any w (plain_clauses (drop i xs)))) (comes (clauses_last any w rest)) total
    (ap (λ z. comes (clauses_last any w z)) (clause-row xs i a lt is) ∙ clause-comes any w (option_map plain_expr (out-Clause a).kind) (out-Clause a).name s rest)
    k

option-is : (o : Option ExprNode) → plain_option o ≡ option_map plain_expr o
option-is None = refl
option-is (Some e) = refl

plain-Cases : (a : Case) (rest : List Case) → plain_cases (a ∷ rest) ≡ case (plain_pattern (out-Case a).pattern) (option_map plain_expr (out-Case a).guard) (plain_suite (out-Case a).body) (plain_cases rest)
plain-Cases a rest = search case_.the_lemmas

case-row : (xs : List Case) (i : ℕ) (a : Case) → i < length xs → a ≡ get_or xs i a
    → plain_cases (drop i xs) ≡ case (plain_pattern (out-Case a).pattern) (option_map plain_expr (out-Case a).guard) (plain_suite (out-Case a).body) (plain_cases (drop (i + 1) xs))
case-row xs i a lt is = ap plain_cases (the_drop xs i a lt is) ∙ plain-Cases a (drop (i + 1) xs)

sure-is : (a : Case) (sure : Bool) → sure ≡ is_sure (plain_pattern (out-Case a).pattern) (plain_option (out-Case a).guard)
    → sure ≡ is_sure (plain_pattern (out-Case a).pattern) (option_map plain_expr (out-Case a).guard)
sure-is a sure e = e ∙ ap (is_sure (plain_pattern (out-Case a).pattern)) (option-is (out-Case a).guard)

pub case-turn : (any : Bool) (t : Targets) (now next was : List Arc) (xs : List Case) (i : ℕ) (a : Case) (sure : Bool) (after : List Target) → i < length xs → a ≡ get_or xs i a
    → sure ≡ is_sure (plain_pattern (out-Case a).pattern) (plain_option (out-Case a).guard)
    → after ≡ entering (cases_first (plain_cases (drop (i + 1) xs))) (not (has_case (plain_cases (drop (i + 1) xs)))) t.onward
    → next ≡ now ++ headed_walk any t (plain_suite (out-Case a).body) sure after
    → now ++ cases_walk any t (plain_cases (drop i xs)) ≡ was → next ++ cases_walk any t (plain_cases (drop (i + 1) xs)) ≡ was
case-turn any t now next was xs i a sure after lt is knows same e h =
    let rest = plain_cases (drop (i + 1) xs) in
    let s = plain_suite (out-Case a).body in
    let p = plain_pattern (out-Case a).pattern in
    let g = option_map plain_expr (out-Case a).guard in
    let to = entering (cases_first rest) (not (has_case rest)) t.onward in
    header-turn now next was (headed_walk any t s (is_sure p g) to) (cases_walk any t rest) (cases_walk any t (plain_cases (drop i xs)))
    (ap (λ z. cases_walk any t z) (case-row xs i a lt is)
    ∙ sym (append_assoc (suite_walk any t t (header_line s) s) (unless (is_sure p g) (arcs_to (pos (header_line s)) to)) (cases_walk any t rest)))
    (e ∙ ap (λ z. now ++ headed_walk any t s sure z) same ∙ ap (λ z. now ++ headed_walk any t s z to) (sure-is a sure knows))
    h

pub case-left : (any : Bool) (left by next : Ways) (xs : List Case) (i : ℕ) (a : Case) (sure over leaves : Bool) → i < length xs → a ≡ get_or xs i a
    → sure ≡ is_sure (plain_pattern (out-Case a).pattern) (plain_option (out-Case a).guard) → over ≡ not (has_case (plain_cases (drop (i + 1) xs))) → leaves ≡ (not sure && over)
    → IsLeft by (λ w. headed_last any w (plain_suite (out-Case a).body) leaves) → Unites left by next
    → (w : Way) (total : Bool) → (way_of left w || comes (cases_last any w (plain_cases (drop i xs)))) ≡ total → (way_of next w || comes (cases_last any w (plain_cases (drop (i + 1) xs)))) ≡ total
case-left any left by next xs i a sure over leaves lt is knows ends both h u w total k =
    let rest = plain_cases (drop (i + 1) xs) in
    let s = plain_suite (out-Case a).body in
    let p = plain_pattern (out-Case a).pattern in
    let g = option_map plain_expr (out-Case a).guard in
    let same : leaves ≡ (not (is_sure p g) && not (has_case rest)) = both ∙ ap (λ z. not z && over) (sure-is a sure knows) ∙ ap (λ z. not (is_sure p g) && z) ends in
    next_ways left by next (λ w. headed_last any w s (not (is_sure p g) && not (has_case rest))) u (λ w. h w ∙ ap (λ z. comes (headed_last any w s z)) same)
    w (comes (cases_last any w (plain_cases (drop i xs)))) (comes (cases_last any w rest)) total
    (ap (λ z. comes (cases_last any w z)) (case-row xs i a lt is) ∙ case-comes any w p g s rest)
    k

pub no-arms : (any : Bool) (w : Way) (passed : Bool) → arms_last any w no_arms [] passed ≡ []
unfolding last_.arms_last
no-arms any w passed = refl

pub no-clauses : (any : Bool) (w : Way) → clauses_last any w no_clauses ≡ []
unfolding last_.clauses_last
no-clauses any w = refl

pub no-cases : (any : Bool) (w : Way) → cases_last any w no_cases ≡ []
unfolding last_.cases_last
no-cases any w = refl

-- ---- the suite of an `else` or a `finally`

pub left-so : {E : Type 0} (r : Result Ways E) (f g : Way → List ℕ) → ((w : Way) → f w ≡ g w) → IfOk r (λ left. IsLeft left f) → IfOk r (λ left. IsLeft left g)
left-so (Ok left) f g e h = λ w. h w ∙ ap comes (e w)
left-so (Err e') f g e h = h

some-suite : (o : Option SuiteNode) (s : SuiteNode) (slice : List Stmt) → o ≡ Some s → slice ≡ (out-Suite s).body.items
    → plain_opt_suite o ≡ has_suite (suite (out-Suite s).first (out-Suite s).last (out-Suite s).inline (plain_stmts slice))
some-suite o s slice is same = ap plain_opt_suite is ∙ ap has_suite (plain-Suite s ∙ ap (λ z. suite (out-Suite s).first (out-Suite s).last (out-Suite s).inline (plain_stmts z)) (sym same))

pub some-walk : (any : Bool) (t : Targets) (o : Option SuiteNode) (s : SuiteNode) (slice : List Stmt) → o ≡ Some s → slice ≡ (out-Suite s).body.items
    → stmts_walk any t (plain_stmts slice) ≡ opt_walk any t (plain_opt_suite o)
some-walk any t o s slice is same = ap (opt_walk any t) (sym (some-suite o s slice is same))

pub some-last : (any : Bool) (w : Way) (o : Option SuiteNode) (s : SuiteNode) (slice : List Stmt) → o ≡ Some s → slice ≡ (out-Suite s).body.items
    → stmts_last any w (plain_stmts slice) ≡ opt_last any w (plain_opt_suite o)
unfolding last_.opt_last
some-last any w o s slice is same = ap (opt_last any w) (sym (some-suite o s slice is same))

pub none-last : (any : Bool) (w : Way) (o : Option SuiteNode) → o ≡ None → [] ≡ opt_last any w (plain_opt_suite o)
unfolding last_.opt_last
none-last any w o is = ap (λ z. opt_last any w (plain_opt_suite z)) (sym is)

pub past-none : (came left : Ways) (o : Option SuiteNode) → o ≡ None → IsPastFinally came (plain_opt_suite o) left came
unfolding last_.finally_last
past-none came left o is any f h k w = h w ∙ ap (λ z. comes (finally_last any w (plain_opt_suite z) (f w))) (sym is)

pub past-some : (came left whole : Ways) (o : Option SuiteNode) (s : SuiteNode) (slice : List Stmt) (r : Option ℕ) (empty : Bool) → o ≡ Some s → slice ≡ (out-Suite s).body.items
    → IsFirst r (stmts_first (plain_stmts slice)) (stmts_empty (plain_stmts slice)) → is_some r ≡ not empty → GoesThrough empty came left whole → IsPastFinally came (plain_opt_suite o) left whole
unfolding last_.finally_last last_.opt_last
past-some came left whole o s slice r empty is same first none u any f h k w =
    let b = plain_stmts slice in
    u f (λ w. stmts_last any w b) h (λ v. k v ∙ ap (λ z. comes (opt_last any v z)) (some-suite o s slice is same)) w
    ∙ ap (λ z. comes (past_finally w z (f w) (stmts_last any onward b) (stmts_last any w b))) (first-empty r (stmts_first b) (stmts_empty b) first empty none)
    ∙ ap (λ z. comes (finally_last any w z (f w))) (sym (some-suite o s slice is same))
