-- Compound statements: what the walk adds at each form, and by which ways it is left.
use Rattle.std.proofs.Common.{◌≡◌, ℕ, Bool, true, false, Option, Some, None, Result, Ok, Err, OnOk, IfOk, Vec, Global, List, [], ◌∷◌, ◌++◌, refl, ap, sym, ◌∙◌, append_assoc, pos}
use Rattle.std.specs.Prelude.{◌&&◌, not}
use Rattle.py_syntax.specs.declared.expr.Expr.{Expr as ExprNode}
use Rattle.py_syntax.specs.declared.stmt.Arm.{Arm}
use Rattle.py_syntax.specs.declared.stmt.Case.{Case}
use Rattle.py_syntax.specs.declared.stmt.Clause.{Clause}
use Rattle.py_syntax.specs.declared.stmt.StmtKind as kind_
use Rattle.py_syntax.specs.declared.stmt.StmtKind.{StmtKind}
use Rattle.py_syntax.specs.declared.stmt.Suite.{Suite as SuiteNode}
use Rattle.py_syntax.specs.Constants.{is_constant}
use Rattle.py_syntax.specs.FirstMarks.{only, opt_first, opt_empty}
use Rattle.py_syntax.specs.LastMarks as last_
use Rattle.py_syntax.specs.LastMarks.{Way, breaking, may_raise, onward_only, past_loop, comes, kind_last, opt_last, arms_last, clauses_last, cases_last, finally_last}
use Rattle.py_syntax.specs.Prediction.{Arc}
use Rattle.py_syntax.specs.Tree.{Expr, StmtKind as Kind, Suite, suite, OptSuite, Arms, Clauses, Cases, if', while, for, try, match}
use Rattle.py_syntax.specs.View.{plain_expr, plain_kind, plain_suite, plain_opt_suite, plain_arms, plain_clauses, plain_cases}
use Rattle.cov_predict.specs.Defs.{kind_defs, cases_defs}
use Rattle.cov_predict.specs.Leaving.{way_of, IsLeft}
use Rattle.cov_predict.specs.Parts.{suite_last, turning_walk, turning_last, loop_walk, loop_last, ended_last, match_last, finally_walk}
use Rattle.cov_predict.specs.Steps.{Unites, JoinsElse, Finishes}
use Rattle.cov_predict.specs.Walk.{Targets, arcs_to, unless, entering, in_loop, in_try, before_finally, united, came_last, kind_walk, suite_walk, opt_walk, arms_walk, clauses_walk}
use Rattle.cov_predict.specs.declared.ways.Ways.{Ways}
use Rattle.cov_predict.proofs.Gathering.{goes_on}
use Rattle.cov_predict.proofs.Left.{comes-append}
use Rattle.cov_predict.proofs.Rows.{arms-apart, turns-is}
use Rattle.cov_predict.proofs.Turns.{plain-Match, plain-Try}

plain-If : (arms : Vec Arm Global) (o : Option SuiteNode) → plain_kind (kind_.If arms o) ≡ if' (plain_arms arms.items) (plain_opt_suite o)
plain-If arms None = search kind_.the_lemmas
plain-If arms (Some o) = search kind_.the_lemmas

plain-While : (e : ExprNode) (b : SuiteNode) (o : Option SuiteNode) → plain_kind (kind_.While e b o) ≡ while (plain_expr e) (plain_suite b) (plain_opt_suite o)
plain-While e b None = search kind_.the_lemmas
plain-While e b (Some o) = search kind_.the_lemmas

plain-For : (x e : ExprNode) (b : SuiteNode) (o : Option SuiteNode) → plain_kind (kind_.For x e b o) ≡ for (plain_expr x) (plain_expr e) (plain_suite b) (plain_opt_suite o)
plain-For x e b None = search kind_.the_lemmas
plain-For x e b (Some o) = search kind_.the_lemmas

-- ---- `if`

pub the-if : (k : StmtKind) (arms : Vec Arm Global) (o : Option SuiteNode) (slice : List Arm) → k ≡ kind_.If arms o → slice ≡ arms.items → if' (plain_arms slice) (plain_opt_suite o) ≡ plain_kind k
the-if k arms o slice is same = sym (ap plain_kind is ∙ plain-If arms o ∙ ap (λ z. if' (plain_arms z) (plain_opt_suite o)) (sym same))

pub if-arcs : {A E : Type 0} (r : Result A E) (any : Bool) (t : Targets) (l : ℕ) (k : Kind) (arms : Arms) (o : OptSuite) (start mid whole : List Arc) → if' arms o ≡ k
    → mid ≡ start ++ arms_walk any t arms (opt_first o) (opt_empty o) → OnOk r (whole ≡ mid ++ opt_walk any t o) → OnOk r (whole ≡ start ++ kind_walk any t l k)
if-arcs r any t l k arms o start mid whole is e h =
    goes_on r start mid whole (arms_walk any t arms (opt_first o) (opt_empty o)) (opt_walk any t o) (kind_walk any t l k) h e (ap (kind_walk any t l) (sym is))

if-last : (any : Bool) (w : Way) (l : ℕ) (arms : Arms) (o : OptSuite) → kind_last any w l (if' arms o) ≡ arms_last any w arms (opt_last any w o) (opt_empty o)
unfolding last_.kind_last
if-last any w l arms o = refl

pub if-left : {E : Type 0} (r : Result Ways E) (any : Bool) (l : ℕ) (k : Kind) (arms : Arms) (o : OptSuite) (taken : Ways) → if' arms o ≡ k
    → IsLeft taken (λ w. arms_last any w arms [] (opt_empty o)) → IfOk r (JoinsElse any taken o) → IfOk r (λ whole. IsLeft whole (λ w. kind_last any w l k))
if-left (Ok whole) any l k arms o taken is h f = λ w.
    f (λ w. arms_last any w arms [] (opt_empty o)) h w
    ∙ comes-append (arms_last any w arms [] (opt_empty o)) (opt_last any w o)
    ∙ sym (arms-apart any w arms (opt_last any w o) (opt_empty o))
    ∙ ap comes (sym (if-last any w l arms o))
    ∙ ap (λ z. comes (kind_last any w l z)) is
if-left (Err e) any l k arms o taken is h f = f

-- ---- loops

pub the-while : (k : StmtKind) (e : ExprNode) (b : SuiteNode) (o : Option SuiteNode) → k ≡ kind_.While e b o → plain_kind k ≡ while (plain_expr e) (plain_suite b) (plain_opt_suite o)
the-while k e b o is = ap plain_kind is ∙ plain-While e b o

pub the-for : (k : StmtKind) (x e : ExprNode) (b : SuiteNode) (o : Option SuiteNode) → k ≡ kind_.For x e b o → plain_kind k ≡ for (plain_expr x) (plain_expr e) (plain_suite b) (plain_opt_suite o)
the-for k x e b o is = ap plain_kind is ∙ plain-For x e b o

-- a header with its suite, and then the `else`
pub loop-arcs : {A E : Type 0} (r : Result A E) (any constant : Bool) (t : Targets) (l : ℕ) (s : Suite) (o : OptSuite) (start mid whole kind : List Arc) → loop_walk any constant t l s o ≡ kind
    → mid ≡ start ++ turning_walk any constant t l s o
    → OnOk r (whole ≡ mid ++ opt_walk any t o) → OnOk r (whole ≡ start ++ kind)
loop-arcs r any constant t l s o start mid whole kind is e h =
    let S = suite_walk any t (in_loop (pos l) t) l s in
    let U = unless constant (arcs_to (pos l) (entering (opt_first o) (opt_empty o) t.onward)) in
    goes_on r start mid whole (S ++ U) (opt_walk any t o) kind h e (sym is ∙ sym (append_assoc S U (opt_walk any t o)))

pub while-walk : (any constant : Bool) (t : Targets) (l : ℕ) (k : StmtKind) (e : Expr) (s : Suite) (o : OptSuite) → plain_kind k ≡ while e s o → constant ≡ is_constant e
    → loop_walk any constant t l s o ≡ kind_walk any t l (plain_kind k)
while-walk any constant t l k e s o is c = ap (λ z. loop_walk any z t l s o) c ∙ ap (kind_walk any t l) (sym is)

pub for-walk : (any : Bool) (t : Targets) (l : ℕ) (k : StmtKind) (x e : Expr) (s : Suite) (o : OptSuite) → plain_kind k ≡ for x e s o → loop_walk any false t l s o ≡ kind_walk any t l (plain_kind k)
for-walk any t l k x e s o is = ap (kind_walk any t l) (sym is)

pub loop-left : {E : Type 0} (r : Result Ways E) (any constant : Bool) (l : ℕ) (s : Suite) (o : OptSuite) (left : Ways) (kind : Way → List ℕ) → ((w : Way) → loop_last any constant w l s o ≡ kind w)
    → IsLeft left (λ w. turning_last any constant w l s o) → IfOk r (JoinsElse any left o) → IfOk r (λ whole. IsLeft whole kind)
loop-left (Ok whole) any constant l s o left kind is h f = λ w.
    let E = onward_only w (only (not constant && opt_empty o) (l ∷ [])) in
    let O = opt_last any w o in
    let M = may_raise any w l in
    let P = past_loop w (suite_last any breaking s) (suite_last any w s) in
    f (λ w. turning_last any constant w l s o) h w
    ∙ ap comes (ap (λ z. (z ++ E) ++ O) (turns-is any w l s) ∙ append_assoc (M ++ P) E O ∙ append_assoc M P (E ++ O) ∙ is w)
loop-left (Err e) any constant l s o left kind is h f = f

while-kind : (any : Bool) (w : Way) (l : ℕ) (e : Expr) (s : Suite) (o : OptSuite) → loop_last any (is_constant e) w l s o ≡ kind_last any w l (while e s o)
unfolding last_.kind_last
while-kind any w l e (suite f g inline b) o = refl

for-kind : (any : Bool) (w : Way) (l : ℕ) (x e : Expr) (s : Suite) (o : OptSuite) → loop_last any false w l s o ≡ kind_last any w l (for x e s o)
unfolding last_.kind_last
for-kind any w l x e (suite f g inline b) o = refl

pub while-last : (any constant : Bool) (w : Way) (l : ℕ) (k : StmtKind) (e : Expr) (s : Suite) (o : OptSuite) → plain_kind k ≡ while e s o → constant ≡ is_constant e
    → loop_last any constant w l s o ≡ kind_last any w l (plain_kind k)
while-last any constant w l k e s o is c = ap (λ z. loop_last any z w l s o) c ∙ while-kind any w l e s o ∙ ap (kind_last any w l) (sym is)

pub for-last : (any : Bool) (w : Way) (l : ℕ) (k : StmtKind) (x e : Expr) (s : Suite) (o : OptSuite) → plain_kind k ≡ for x e s o → loop_last any false w l s o ≡ kind_last any w l (plain_kind k)
for-last any w l k x e s o is = for-kind any w l x e s o ∙ ap (kind_last any w l) (sym is)

-- ---- `try`

pub the-try : (k : StmtKind) (b : SuiteNode) (cs : Vec Clause Global) (o f : Option SuiteNode) (slice : List Clause) → k ≡ kind_.Try b cs o f → slice ≡ cs.items
    → try (plain_suite b) (plain_clauses slice) (plain_opt_suite o) (plain_opt_suite f) ≡ plain_kind k
the-try k b cs o f slice is same = sym (ap plain_kind is ∙ plain-Try b cs o f ∙ ap (λ z. try (plain_suite b) (plain_clauses z) (plain_opt_suite o) (plain_opt_suite f)) (sym same))

pub came-left : (any : Bool) (l : ℕ) (s : Suite) (cs : Clauses) (o : OptSuite) (ended handled others inner came : Ways)
    → IsLeft ended (λ w. ended_last any w l s cs o) → IsLeft handled (λ w. clauses_last any w cs) → IsLeft others (λ w. opt_last any w o) → Unites handled others inner → Unites ended inner came
    → IsLeft came (λ w. came_last any l s cs o w)
came-left any l (suite f g inline b) cs o ended handled others inner came h k m u v w =
    v (λ w. ended_last any w l (suite f g inline b) cs o) (λ w. clauses_last any w cs ++ opt_last any w o) h (u (λ w. clauses_last any w cs) (λ w. opt_last any w o) k m) w

pub try-arcs : {A E : Type 0} (r : Result A E) (any : Bool) (t inner : Targets) (l : ℕ) (k : Kind) (s : Suite) (cs : Clauses) (o fin : OptSuite) (came : Ways) (start tried handled others whole : List Arc) → try s cs o fin ≡ k
    → inner ≡ before_finally fin t → IsLeft came (λ w. came_last any l s cs o w)
    → tried ≡ start ++ suite_walk any t (in_try cs o inner) l s → handled ≡ tried ++ clauses_walk any inner cs → others ≡ handled ++ opt_walk any inner o
    → OnOk r (whole ≡ others ++ finally_walk any t (way_of came) fin) → OnOk r (whole ≡ start ++ kind_walk any t l k)
try-arcs r any t inner l k s cs o fin came start tried handled others whole is same left e f g h =
    let S = suite_walk any t (in_try cs o inner) l s in
    let C = clauses_walk any inner cs in
    let O = opt_walk any inner o in
    let F = finally_walk any t (way_of came) fin in
    let G = finally_walk any t (λ w. comes (came_last any l s cs o w)) fin in
    goes_on r start tried whole S (C ++ (O ++ F)) (kind_walk any t l k)
    (goes_on r tried handled whole C (O ++ F) (C ++ (O ++ F)) (goes_on r handled others whole O F (O ++ F) h g refl) f refl) e
    (ap (kind_walk any t l) (sym is)
    ∙ ap (λ z. suite_walk any t (in_try cs o z) l s ++ (clauses_walk any z cs ++ (opt_walk any z o ++ G))) (sym same)
    ∙ ap (λ z. S ++ (C ++ (O ++ finally_walk any t z fin))) (λ i w. sym (left w) i))

try-last : (any : Bool) (w : Way) (l : ℕ) (s : Suite) (cs : Clauses) (o fin : OptSuite) → kind_last any w l (try s cs o fin) ≡ may_raise any w l ++ finally_last any w fin (came_last any l s cs o w)
unfolding last_.kind_last
try-last any w l (suite f g inline b) cs o fin = refl

pub try-left : {E : Type 0} (r : Result Ways E) (any : Bool) (l : ℕ) (k : Kind) (s : Suite) (cs : Clauses) (o fin : OptSuite) (came : Ways) → try s cs o fin ≡ k → IsLeft came (λ w. came_last any l s cs o w)
    → IfOk r (Finishes any came fin) → IfOk r (λ left. IsLeft left (λ w. kind_last any w l k))
try-left (Ok left) any l k s cs o fin came is h f = λ w. f l (λ w. came_last any l s cs o w) h w ∙ ap comes (sym (try-last any w l s cs o fin)) ∙ ap (λ z. comes (kind_last any w l z)) is
try-left (Err e) any l k s cs o fin came is h f = f

-- ---- `match`

the-match : (any : Bool) (w : Way) (l : ℕ) (e : Expr) (header : ℕ) (cs : Cases) → match_last any w l cs ≡ kind_last any w l (match e header cs)
unfolding last_.kind_last
the-match any w l e header cs = refl

pub match-is : (any : Bool) (w : Way) (l : ℕ) (k : StmtKind) (e : ExprNode) (header : ℕ) (cs : Vec Case Global) (slice : List Case) → k ≡ kind_.Match e header cs → slice ≡ cs.items
    → match_last any w l (plain_cases slice) ≡ kind_last any w l (plain_kind k)
match-is any w l k e header cs slice is same =
    the-match any w l (plain_expr e) header (plain_cases slice)
    ∙ ap (λ z. kind_last any w l (match (plain_expr e) header (plain_cases z))) same
    ∙ ap (kind_last any w l) (sym (ap plain_kind is ∙ plain-Match e header cs))

-- ---- functions in statements

pub match-defs : (any : Bool) (l : ℕ) (k : StmtKind) (e : ExprNode) (header : ℕ) (cs : Vec Case Global) (slice : List Case) → k ≡ kind_.Match e header cs → slice ≡ cs.items
    → cases_defs any (plain_cases slice) ≡ kind_defs any l (plain_kind k)
match-defs any l k e header cs slice is same = ap (λ z. cases_defs any (plain_cases z)) same ∙ ap (kind_defs any l) (sym (ap plain_kind is ∙ plain-Match e header cs))
