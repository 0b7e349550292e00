-- The names that a statement and lists of statements import, by those of their parts.
use Rattle.std.proofs.Common.{◌≡◌, ℕ, ◌+◌, ◌<◌, List, [], ◌∷◌, ◌++◌, Option, Some, None, Vec, Global, refl, sym, ap, ◌∙◌, get_or, length, drop}
use Rattle.std.specs.Option.{option_map}
use Rattle.py_syntax.specs.declared.expr.Expr.{Expr as Node}
use Rattle.py_syntax.specs.declared.stmt.Arm.{Arm, out-Arm}
use Rattle.py_syntax.specs.declared.stmt.Arm as arms_
use Rattle.py_syntax.specs.declared.stmt.Case.{Case, out-Case}
use Rattle.py_syntax.specs.declared.stmt.Case as cases_
use Rattle.py_syntax.specs.declared.stmt.Clause.{Clause, out-Clause}
use Rattle.py_syntax.specs.declared.stmt.Clause as clauses_
use Rattle.py_syntax.specs.declared.stmt.Stmt.{Stmt, out-Stmt}
use Rattle.py_syntax.specs.declared.stmt.Stmt as stmt_
use Rattle.py_syntax.specs.declared.stmt.StmtKind.{StmtKind}
use Rattle.py_syntax.specs.declared.stmt.StmtKind as kind_
use Rattle.py_syntax.specs.declared.stmt.Suite.{Suite}
use Rattle.py_syntax.specs.Names.{add_names}
use Rattle.py_syntax.specs.Tree as T
use Rattle.py_syntax.specs.Tree.{Text}
use Rattle.py_syntax.specs.View.{plain_expr, plain_pattern, plain_stmts, plain_kind, plain_suite, plain_opt_suite, plain_arms, plain_clauses, plain_cases}
use Rattle.py_meaning.specs.Loading.{imported, imported_in, opt_imported, arms_imported, clauses_imported, cases_imported}
use Rattle.py_scope.proofs.Gathering.{named, a_turn}
use Rattle.cov_run.specs.Imports.{suite_imported}

-- ---- statements

while-of : (t : T.Expr) (s : T.Suite) (o : T.OptSuite) → imported_in (T.while t s o) ≡ suite_imported s ++ opt_imported o
unfolding imported_in
while-of t (T.suite f l inline b) o = refl

for-of : (t e : T.Expr) (s : T.Suite) (o : T.OptSuite) → imported_in (T.for t e s o) ≡ suite_imported s ++ opt_imported o
unfolding imported_in
for-of t e (T.suite f l inline b) o = refl

try-of : (s : T.Suite) (cs : T.Clauses) (o fin : T.OptSuite) → imported_in (T.try s cs o fin) ≡ suite_imported s ++ (clauses_imported cs ++ (opt_imported o ++ opt_imported fin))
unfolding imported_in
try-of (T.suite f l inline b) cs o fin = refl

if-of : (as' : T.Arms) (o : T.OptSuite) → imported_in (T.if' as' o) ≡ arms_imported as' ++ opt_imported o
unfolding imported_in
if-of as' o = refl

plain-If : (as' : Vec Arm Global) (o : Option Suite) → plain_kind (kind_.If as' o) ≡ T.if' (plain_arms as'.items) (plain_opt_suite o)
plain-If as' None = search kind_.the_lemmas
plain-If as' (Some o) = search kind_.the_lemmas

plain-While : (t : Node) (b : Suite) (o : Option Suite) → plain_kind (kind_.While t b o) ≡ T.while (plain_expr t) (plain_suite b) (plain_opt_suite o)
plain-While t b None = search kind_.the_lemmas
plain-While t b (Some o) = search kind_.the_lemmas

plain-For : (t e : Node) (b : Suite) (o : Option Suite) → plain_kind (kind_.For t e b o) ≡ T.for (plain_expr t) (plain_expr e) (plain_suite b) (plain_opt_suite o)
plain-For t e b None = search kind_.the_lemmas
plain-For t e b (Some o) = search kind_.the_lemmas

plain-Try : (b : Suite) (cs : Vec Clause Global) (o f : Option Suite) → plain_kind (kind_.Try b cs o f) ≡ T.try (plain_suite b) (plain_clauses cs.items) (plain_opt_suite o) (plain_opt_suite f)
plain-Try b cs None None = search kind_.the_lemmas
plain-Try b cs None (Some f) = search kind_.the_lemmas
plain-Try b cs (Some o) None = search kind_.the_lemmas
plain-Try b cs (Some o) (Some f) = search kind_.the_lemmas

pub if-parts : (k : StmtKind) (as' : Vec Arm Global) (slice : List Arm) (o : Option Suite) → k ≡ kind_.If as' o → slice ≡ as'.items
    → imported_in (plain_kind k) ≡ arms_imported (plain_arms slice) ++ opt_imported (plain_opt_suite o)
if-parts k as' slice o is same =
    ap (λ q. imported_in (plain_kind q)) is ∙ ap imported_in (plain-If as' o) ∙ if-of (plain_arms as'.items) (plain_opt_suite o) ∙ ap (λ xs. arms_imported (plain_arms xs) ++ opt_imported (plain_opt_suite o)) (sym same)

pub while-parts : (k : StmtKind) (t : Node) (b : Suite) (o : Option Suite) → k ≡ kind_.While t b o → imported_in (plain_kind k) ≡ suite_imported (plain_suite b) ++ opt_imported (plain_opt_suite o)
while-parts k t b o is = ap (λ q. imported_in (plain_kind q)) is ∙ ap imported_in (plain-While t b o) ∙ while-of (plain_expr t) (plain_suite b) (plain_opt_suite o)

pub for-parts : (k : StmtKind) (t e : Node) (b : Suite) (o : Option Suite) → k ≡ kind_.For t e b o → imported_in (plain_kind k) ≡ suite_imported (plain_suite b) ++ opt_imported (plain_opt_suite o)
for-parts k t e b o is = ap (λ q. imported_in (plain_kind q)) is ∙ ap imported_in (plain-For t e b o) ∙ for-of (plain_expr t) (plain_expr e) (plain_suite b) (plain_opt_suite o)

pub try-parts : (k : StmtKind) (b : Suite) (cs : Vec Clause Global) (slice : List Clause) (o f : Option Suite) → k ≡ kind_.Try b cs o f → slice ≡ cs.items
    → imported_in (plain_kind k) ≡ suite_imported (plain_suite b) ++ (clauses_imported (plain_clauses slice) ++ (opt_imported (plain_opt_suite o) ++ opt_imported (plain_opt_suite f)))
try-parts k b cs slice o f is same =
    ap (λ q. imported_in (plain_kind q)) is ∙ ap imported_in (plain-Try b cs o f) ∙ try-of (plain_suite b) (plain_clauses cs.items) (plain_opt_suite o) (plain_opt_suite f)
    ∙ ap (λ xs. suite_imported (plain_suite b) ++ (clauses_imported (plain_clauses xs) ++ (opt_imported (plain_opt_suite o) ++ opt_imported (plain_opt_suite f)))) (sym same)

-- ---- suites

-- ---- lists

plain-stmts : (s : Stmt) (ss : List Stmt) → plain_stmts (s ∷ ss) ≡ T.stmt (out-Stmt s).first (out-Stmt s).last (plain_kind (out-Stmt s).kind) (out-Stmt s).end (plain_stmts ss)
plain-stmts s ss = search stmt_.the_lemmas

stmts-step : (s : Stmt) (ss : List Stmt) → imported (plain_stmts (s ∷ ss)) ≡ imported_in (plain_kind (out-Stmt s).kind) ++ imported (plain_stmts ss)
unfolding imported
stmts-step s ss = ap imported (plain-stmts s ss)

plain-arms : (a : Arm) (as' : List Arm) → plain_arms (a ∷ as') ≡ T.arm (plain_expr (out-Arm a).test) (plain_suite (out-Arm a).body) (plain_arms as')
plain-arms a as' = search arms_.the_lemmas

arm-of : (t : T.Expr) (s : T.Suite) (rest : T.Arms) → arms_imported (T.arm t s rest) ≡ suite_imported s ++ arms_imported rest
unfolding imported_in
arm-of t (T.suite f l inline b) rest = refl

arms-step : (a : Arm) (as' : List Arm) → arms_imported (plain_arms (a ∷ as')) ≡ suite_imported (plain_suite (out-Arm a).body) ++ arms_imported (plain_arms as')
arms-step a as' = ap arms_imported (plain-arms a as') ∙ arm-of (plain_expr (out-Arm a).test) (plain_suite (out-Arm a).body) (plain_arms as')

plain-clauses : (c : Clause) (cs : List Clause) → plain_clauses (c ∷ cs) ≡ T.clause (option_map plain_expr (out-Clause c).kind) (out-Clause c).name (plain_suite (out-Clause c).body) (plain_clauses cs)
plain-clauses c cs = search clauses_.the_lemmas

clause-of : (k : Option T.Expr) (x : Option Text) (s : T.Suite) (rest : T.Clauses) → clauses_imported (T.clause k x s rest) ≡ suite_imported s ++ clauses_imported rest
unfolding imported_in
clause-of k x (T.suite f l inline b) rest = refl

clauses-step : (c : Clause) (cs : List Clause) → clauses_imported (plain_clauses (c ∷ cs)) ≡ suite_imported (plain_suite (out-Clause c).body) ++ clauses_imported (plain_clauses cs)
clauses-step c cs = ap clauses_imported (plain-clauses c cs) ∙ clause-of (option_map plain_expr (out-Clause c).kind) (out-Clause c).name (plain_suite (out-Clause c).body) (plain_clauses cs)

plain-cases : (c : Case) (cs : List Case) → plain_cases (c ∷ cs) ≡ T.case (plain_pattern (out-Case c).pattern) (option_map plain_expr (out-Case c).guard) (plain_suite (out-Case c).body) (plain_cases cs)
plain-cases c cs = search cases_.the_lemmas

case-of : (p : T.Pattern) (g : Option T.Expr) (s : T.Suite) (rest : T.Cases) → cases_imported (T.case p g s rest) ≡ suite_imported s ++ cases_imported rest
unfolding imported_in
case-of p g (T.suite f l inline b) rest = refl

cases-step : (c : Case) (cs : List Case) → cases_imported (plain_cases (c ∷ cs)) ≡ suite_imported (plain_suite (out-Case c).body) ++ cases_imported (plain_cases cs)
cases-step c cs = ap cases_imported (plain-cases c cs) ∙ case-of (plain_pattern (out-Case c).pattern) (option_map plain_expr (out-Case c).guard) (plain_suite (out-Case c).body) (plain_cases cs)

-- ---- turns of loops

pub stmts-turn : (now next w : List Text) (xs : List Stmt) (i : ℕ) (s : Stmt) → i < length xs → s ≡ get_or xs i s → next ≡ add_names now (imported_in (plain_kind (out-Stmt s).kind))
    → add_names now (imported (plain_stmts (drop i xs))) ≡ w → add_names next (imported (plain_stmts (drop (i + 1) xs))) ≡ w
stmts-turn = a_turn named (λ ss. imported (plain_stmts ss)) (λ s. imported_in (plain_kind (out-Stmt s).kind)) stmts-step

pub arms-turn : (now next w : List Text) (xs : List Arm) (i : ℕ) (a : Arm) → i < length xs → a ≡ get_or xs i a → next ≡ add_names now (suite_imported (plain_suite (out-Arm a).body))
    → add_names now (arms_imported (plain_arms (drop i xs))) ≡ w → add_names next (arms_imported (plain_arms (drop (i + 1) xs))) ≡ w
arms-turn = a_turn named (λ as'. arms_imported (plain_arms as')) (λ a. suite_imported (plain_suite (out-Arm a).body)) arms-step

pub clauses-turn : (now next w : List Text) (xs : List Clause) (i : ℕ) (c : Clause) → i < length xs → c ≡ get_or xs i c → next ≡ add_names now (suite_imported (plain_suite (out-Clause c).body))
    → add_names now (clauses_imported (plain_clauses (drop i xs))) ≡ w → add_names next (clauses_imported (plain_clauses (drop (i + 1) xs))) ≡ w
clauses-turn = a_turn named (λ cs. clauses_imported (plain_clauses cs)) (λ c. suite_imported (plain_suite (out-Clause c).body)) clauses-step

pub cases-turn : (now next w : List Text) (xs : List Case) (i : ℕ) (c : Case) → i < length xs → c ≡ get_or xs i c → next ≡ add_names now (suite_imported (plain_suite (out-Case c).body))
    → add_names now (cases_imported (plain_cases (drop i xs))) ≡ w → add_names next (cases_imported (plain_cases (drop (i + 1) xs))) ≡ w
cases-turn = a_turn named (λ cs. cases_imported (plain_cases cs)) (λ c. suite_imported (plain_suite (out-Case c).body)) cases-step

-- ---- nothing is left

pub no-stmts : imported (plain_stmts []) ≡ []
unfolding imported
no-stmts = refl

pub no-arms : arms_imported (plain_arms []) ≡ []
unfolding imported_in
no-arms = refl

pub no-clauses : clauses_imported (plain_clauses []) ≡ []
unfolding imported_in
no-clauses = refl

pub no-cases : cases_imported (plain_cases []) ≡ []
unfolding imported_in
no-cases = refl
