-- The `def`s of a text: statements by their parts.
use Rattle.std.proofs.Common.{◌≡◌, ℕ, ◌+◌, ◌<◌, Bool, List, [], ◌∷◌, ◌++◌, map, drop, length, get_or, Vec, Global, Result, Ok, Err, OnOk, refl, ap, sym, ◌∙◌}
use Rattle.std.specs.Option.{option_map}
use Rattle.std.proofs.lemmas.List.{append-nil, map-append}
use Rattle.std.specs.Prelude.{Option, Some, None}
use Rattle.py_syntax.specs.declared.expr.Expr.{Expr as ExprNode}
use Rattle.py_syntax.specs.declared.stmt.Stmt.{Stmt, out-Stmt}
use Rattle.py_syntax.specs.declared.stmt.Stmt as stmts_
use Rattle.py_syntax.specs.declared.stmt.Suite.{Suite as SuiteNode, out-Suite}
use Rattle.py_syntax.specs.declared.stmt.Suite as suites
use Rattle.py_syntax.specs.declared.stmt.Arm.{Arm, out-Arm}
use Rattle.py_syntax.specs.declared.stmt.Arm as arms_
use Rattle.py_syntax.specs.declared.stmt.Case.{Case, out-Case}
use Rattle.py_syntax.specs.declared.stmt.Case as cases_
use Rattle.py_syntax.specs.declared.stmt.Clause.{Clause, out-Clause}
use Rattle.py_syntax.specs.declared.stmt.Clause as clauses_
use Rattle.py_syntax.specs.declared.stmt.StmtKind.{StmtKind as KindNode}
use Rattle.py_syntax.specs.declared.stmt.StmtKind as kind_
use Rattle.py_syntax.specs.Tree.{Text, Expr, Exprs, Pattern, stmt, Suite, suite, OptSuite, has_suite, Arms, arm, Clauses, clause, Cases, case, if', while, for, try, def, match}
use Rattle.py_syntax.specs.View.{plain_expr, plain_exprs, plain_pattern, plain_stmts, plain_kind, plain_suite, plain_opt_suite, plain_arms, plain_clauses, plain_cases}
use Rattle.py_compile.specs.Definitions.{Definition, definitions, definitions_in, opt_definitions, arms_definitions, clauses_definitions, cases_definitions}
use Rattle.py_compile_expr.proofs.Turns.{the_drop, a_turn}
use Rattle.py_compile_expr.specs.Expressions.{count}
use Rattle.py_compile_unit.specs.declared.functions.Def.{Def}
use Rattle.py_compile_unit.specs.Defs.{definition_of, line_of, suite_definitions, suite_body, defined}

-- ---- with suites of which nothing is known

while-shape : (l : ℕ) (e : Expr) (s : Suite) (o : OptSuite) → definitions_in l (while e s o) ≡ suite_definitions s ++ opt_definitions o
while-shape l e (suite f g i b) o = refl

for-shape : (l : ℕ) (x e : Expr) (s : Suite) (o : OptSuite) → definitions_in l (for x e s o) ≡ suite_definitions s ++ opt_definitions o
for-shape l x e (suite f g i b) o = refl

try-shape : (l : ℕ) (s : Suite) (cs : Clauses) (o last : OptSuite)
    → definitions_in l (try s cs o last) ≡ suite_definitions s ++ (clauses_definitions cs ++ (opt_definitions o ++ opt_definitions last))
try-shape l (suite f g i b) cs o last = refl

def-shape : (l : ℕ) (x : Text) (ps : List Text) (ds : Exprs) (c : Bool) (s : Suite) → definitions_in l (def x ps ds c s) ≡ defined l x ps ds s ∷ []
def-shape l x ps ds c (suite f g i b) = refl

arm-shape : (e : Expr) (s : Suite) (xs : Arms) → arms_definitions (arm e s xs) ≡ suite_definitions s ++ arms_definitions xs
arm-shape e (suite f g i b) xs = refl

clause-shape : (e : Option Expr) (x : Option Text) (s : Suite) (xs : Clauses) → clauses_definitions (clause e x s xs) ≡ suite_definitions s ++ clauses_definitions xs
clause-shape e x (suite f g i b) xs = refl

case-shape : (p : Pattern) (e : Option Expr) (s : Suite) (xs : Cases) → cases_definitions (case p e s xs) ≡ suite_definitions s ++ cases_definitions xs
case-shape p e (suite f g i b) xs = refl

opt-shape : (s : Suite) → opt_definitions (has_suite s) ≡ suite_definitions s
opt-shape (suite f g i b) = refl

-- ---- by the nodes

plain-Suite : (s : SuiteNode) → plain_suite s ≡ suite (out-Suite s).first (out-Suite s).last (out-Suite s).inline (plain_stmts (out-Suite s).body.items)
plain-Suite s = search suites.the_lemmas

plain-arms : (a : Arm) (as' : List Arm) → plain_arms (a ∷ as') ≡ arm (plain_expr (out-Arm a).test) (plain_suite (out-Arm a).body) (plain_arms as')
plain-arms a as' = search arms_.the_lemmas

plain-clauses : (c : Clause) (cs : List Clause) → plain_clauses (c ∷ cs) ≡ clause (option_map plain_expr (out-Clause c).kind) (out-Clause c).name (plain_suite (out-Clause c).body) (plain_clauses cs)
plain-clauses c cs = search clauses_.the_lemmas

plain-cases : (c : Case) (cs : List Case) → plain_cases (c ∷ cs) ≡ case (plain_pattern (out-Case c).pattern) (option_map plain_expr (out-Case c).guard) (plain_suite (out-Case c).body) (plain_cases cs)
plain-cases c cs = search cases_.the_lemmas

plain-stmts : (s : Stmt) (ss : List Stmt) → plain_stmts (s ∷ ss) ≡ stmt (out-Stmt s).first (out-Stmt s).last (plain_kind (out-Stmt s).kind) (out-Stmt s).end (plain_stmts ss)
plain-stmts s ss = search stmts_.the_lemmas

pub suite_body-is : (s : SuiteNode) → suite_body (plain_suite s) ≡ plain_stmts (out-Suite s).body.items
suite_body-is s = ap suite_body (plain-Suite s)

pub stmts-are : (s : SuiteNode) (slice : List Stmt) → slice ≡ (out-Suite s).body.items → suite_definitions (plain_suite s) ≡ definitions (plain_stmts slice)
stmts-are s slice same = ap suite_definitions (plain-Suite s) ∙ ap (λ ss. definitions (plain_stmts ss)) (sym same)

pub some-is : (o : Option SuiteNode) (s : SuiteNode) → o ≡ Some s → opt_definitions (plain_opt_suite o) ≡ suite_definitions (plain_suite s)
some-is o s is = ap (λ q. opt_definitions (plain_opt_suite q)) is ∙ opt-shape (plain_suite s)

pub none-is : (now : List Definition) (o : Option SuiteNode) → o ≡ None → now ≡ now ++ opt_definitions (plain_opt_suite o)
none-is now o is = sym (append-nil now) ∙ ap (λ q. now ++ opt_definitions (plain_opt_suite q)) (sym is)

pub stmts-step : (s : Stmt) (ss : List Stmt) → definitions (plain_stmts (s ∷ ss)) ≡ definitions_in (out-Stmt s).first (plain_kind (out-Stmt s).kind) ++ definitions (plain_stmts ss)
stmts-step s ss = ap definitions (plain-stmts s ss)

pub arms-step : (a : Arm) (as' : List Arm) → arms_definitions (plain_arms (a ∷ as')) ≡ suite_definitions (plain_suite (out-Arm a).body) ++ arms_definitions (plain_arms as')
arms-step a as' = ap arms_definitions (plain-arms a as') ∙ arm-shape (plain_expr (out-Arm a).test) (plain_suite (out-Arm a).body) (plain_arms as')

pub clauses-step : (c : Clause) (cs : List Clause) → clauses_definitions (plain_clauses (c ∷ cs)) ≡ suite_definitions (plain_suite (out-Clause c).body) ++ clauses_definitions (plain_clauses cs)
clauses-step c cs = ap clauses_definitions (plain-clauses c cs) ∙ clause-shape (option_map plain_expr (out-Clause c).kind) (out-Clause c).name (plain_suite (out-Clause c).body) (plain_clauses cs)

pub cases-step : (c : Case) (cs : List Case) → cases_definitions (plain_cases (c ∷ cs)) ≡ suite_definitions (plain_suite (out-Case c).body) ++ cases_definitions (plain_cases cs)
cases-step c cs = ap cases_definitions (plain-cases c cs) ∙ case-shape (plain_pattern (out-Case c).pattern) (option_map plain_expr (out-Case c).guard) (plain_suite (out-Case c).body) (plain_cases cs)

-- ---- statements

plain-If : (arms : Vec Arm Global) (o : Option SuiteNode) → plain_kind (kind_.If arms o) ≡ if' (plain_arms arms.items) (plain_opt_suite o)
plain-If arms None = search kind_.the_lemmas
plain-If arms (Some o) = search kind_.the_lemmas

pub if-is : (l : ℕ) (k : KindNode) (arms : Vec Arm Global) (slice : List Arm) (o : Option SuiteNode) → k ≡ kind_.If arms o → slice ≡ arms.items
    → definitions_in l (plain_kind k) ≡ arms_definitions (plain_arms slice) ++ opt_definitions (plain_opt_suite o)
if-is l k arms slice o is same =
    ap (λ q. definitions_in l (plain_kind q)) is ∙ ap (definitions_in l) (plain-If arms o)
    ∙ ap (λ xs. arms_definitions (plain_arms xs) ++ opt_definitions (plain_opt_suite o)) (sym same)

plain-While : (e : ExprNode) (b : SuiteNode) (o : Option SuiteNode) → plain_kind (kind_.While e b o) ≡ while (plain_expr e) (plain_suite b) (plain_opt_suite o)
plain-While e b None = search kind_.the_lemmas
plain-While e b (Some o) = search kind_.the_lemmas

plain-For : (x e : ExprNode) (b : SuiteNode) (o : Option SuiteNode) → plain_kind (kind_.For x e b o) ≡ for (plain_expr x) (plain_expr e) (plain_suite b) (plain_opt_suite o)
plain-For x e b None = search kind_.the_lemmas
plain-For x e b (Some o) = search kind_.the_lemmas

plain-Try : (b : SuiteNode) (cs : Vec Clause Global) (o f : Option SuiteNode) → plain_kind (kind_.Try b cs o f) ≡ try (plain_suite b) (plain_clauses cs.items) (plain_opt_suite o) (plain_opt_suite f)
plain-Try b cs None None = search kind_.the_lemmas
plain-Try b cs None (Some f) = search kind_.the_lemmas
plain-Try b cs (Some o) None = search kind_.the_lemmas
plain-Try b cs (Some o) (Some f) = search kind_.the_lemmas

plain-Def : (x : Text) (ps : Vec Text Global) (ds : Vec ExprNode Global) (c : Bool) (b : SuiteNode) → plain_kind (kind_.Def x ps ds c b) ≡ def x ps.items (plain_exprs ds.items) c (plain_suite b)
plain-Def x ps ds c b = search kind_.the_lemmas

plain-Match : (e : ExprNode) (header : ℕ) (cs : Vec Case Global) → plain_kind (kind_.Match e header cs) ≡ match (plain_expr e) header (plain_cases cs.items)
plain-Match e header cs = search kind_.the_lemmas

pub while-is : (l : ℕ) (k : KindNode) (e : ExprNode) (b : SuiteNode) (o : Option SuiteNode) → k ≡ kind_.While e b o
    → definitions_in l (plain_kind k) ≡ suite_definitions (plain_suite b) ++ opt_definitions (plain_opt_suite o)
while-is l k e b o is = ap (λ q. definitions_in l (plain_kind q)) is ∙ ap (definitions_in l) (plain-While e b o) ∙ while-shape l (plain_expr e) (plain_suite b) (plain_opt_suite o)

pub for-is : (l : ℕ) (k : KindNode) (x e : ExprNode) (b : SuiteNode) (o : Option SuiteNode) → k ≡ kind_.For x e b o
    → definitions_in l (plain_kind k) ≡ suite_definitions (plain_suite b) ++ opt_definitions (plain_opt_suite o)
for-is l k x e b o is = ap (λ q. definitions_in l (plain_kind q)) is ∙ ap (definitions_in l) (plain-For x e b o) ∙ for-shape l (plain_expr x) (plain_expr e) (plain_suite b) (plain_opt_suite o)

pub try-is : (l : ℕ) (k : KindNode) (b : SuiteNode) (cs : Vec Clause Global) (slice : List Clause) (o f : Option SuiteNode) → k ≡ kind_.Try b cs o f → slice ≡ cs.items
    → definitions_in l (plain_kind k) ≡ suite_definitions (plain_suite b) ++ (clauses_definitions (plain_clauses slice) ++ (opt_definitions (plain_opt_suite o) ++ opt_definitions (plain_opt_suite f)))
try-is l k b cs slice o f is same =
    ap (λ q. definitions_in l (plain_kind q)) is ∙ ap (definitions_in l) (plain-Try b cs o f)
    ∙ try-shape l (plain_suite b) (plain_clauses cs.items) (plain_opt_suite o) (plain_opt_suite f)
    ∙ ap (λ xs. suite_definitions (plain_suite b) ++ (clauses_definitions (plain_clauses xs) ++ (opt_definitions (plain_opt_suite o) ++ opt_definitions (plain_opt_suite f)))) (sym same)

pub def-is : (l : ℕ) (k : KindNode) (x : Text) (ps : Vec Text Global) (ds : Vec ExprNode Global) (c : Bool) (b : SuiteNode) (params : List Text) (defaults : List ExprNode)
    → k ≡ kind_.Def x ps ds c b → params ≡ ps.items → defaults ≡ ds.items → definitions_in l (plain_kind k) ≡ defined l x params (plain_exprs defaults) (plain_suite b) ∷ []
def-is l k x ps ds c b params defaults is p d =
    ap (λ q. definitions_in l (plain_kind q)) is ∙ ap (definitions_in l) (plain-Def x ps ds c b) ∙ def-shape l x ps.items (plain_exprs ds.items) c (plain_suite b)
    ∙ ap (λ xs. defined l x xs (plain_exprs ds.items) (plain_suite b) ∷ []) (sym p) ∙ ap (λ es. defined l x params (plain_exprs es) (plain_suite b) ∷ []) (sym d)

pub match-is : (l : ℕ) (k : KindNode) (e : ExprNode) (header : ℕ) (cs : Vec Case Global) (slice : List Case) → k ≡ kind_.Match e header cs → slice ≡ cs.items
    → definitions_in l (plain_kind k) ≡ cases_definitions (plain_cases slice)
match-is l k e header cs slice is same =
    ap (λ q. definitions_in l (plain_kind q)) is ∙ ap (definitions_in l) (plain-Match e header cs) ∙ ap (λ xs. cases_definitions (plain_cases xs)) (sym same)

-- one function more
pub one_more : (old new : List Def) (d : Def) (l : ℕ) (x : Text) (ps : List Text) (ds : List ExprNode) (s : SuiteNode) (ss : List Stmt) → new ≡ old ++ d ∷ []
    → definition_of d ≡ record { function = record { line = l; name = x; params = ps; body = plain_stmts ss }; defaults = count (plain_exprs ds) } → ss ≡ (out-Suite s).body.items
    → map definition_of new ≡ map definition_of old ++ defined l x ps (plain_exprs ds) (plain_suite s) ∷ []
one_more old new d l x ps ds s ss e is same =
    ap (map definition_of) e ∙ map-append definition_of old (d ∷ [])
    ∙ ap (λ z. map definition_of old ++ z ∷ [])
    (is ∙ ap (λ b. record { function = record { line = l; name = x; params = ps; body = b }; defaults = count (plain_exprs ds) }) (ap plain_stmts same ∙ sym (suite_body-is s)))

-- ---- turns of loops, and the ends of statements

pub turn_of : {X : Type 0} (F : List X → List Definition) (f : X → List Definition) → ((x : X) (xs : List X) → F (x ∷ xs) ≡ f x ++ F xs) → (now next w : List Definition) (xs : List X) (i : ℕ) (x : X)
    → i < length xs → x ≡ get_or xs i x → next ≡ now ++ f x → now ++ F (drop i xs) ≡ w → next ++ F (drop (i + 1) xs) ≡ w
turn_of F f step now next w xs i x lt is e h = a_turn now next w (f x) (F (drop (i + 1) xs)) (F (drop i xs)) e (ap F (the_drop xs i x lt is) ∙ step x (drop (i + 1) xs)) h

pub said : {R E : Type 0} (r : Result R E) (now next x y : List Definition) → y ≡ x → OnOk r (next ≡ now ++ x) → OnOk r (next ≡ now ++ y)
said (Ok u) now next x y e h = h ∙ ap (λ z. now ++ z) (sym e)
said (Err f) now next x y e h = h

-- the lines of `def`s, one after the other
pub lines_first : (now : List ℕ) (ds : List Def) → now ≡ [] → now ++ map line_of (map definition_of ds) ≡ map line_of (map definition_of ds)
lines_first now ds e = ap (λ k. k ++ map line_of (map definition_of ds)) e

pub line_turn : (now next w : List ℕ) (ds : List Def) (i : ℕ) (d : Def) → i < length ds → d ≡ get_or ds i d → next ≡ now ++ d.line ∷ []
    → now ++ map line_of (map definition_of (drop i ds)) ≡ w → next ++ map line_of (map definition_of (drop (i + 1) ds)) ≡ w
line_turn now next w ds i d lt is e h =
    a_turn now next w (d.line ∷ []) (map line_of (map definition_of (drop (i + 1) ds))) (map line_of (map definition_of (drop i ds))) e (ap (λ k. map line_of (map definition_of k)) (the_drop ds i d lt is)) h
