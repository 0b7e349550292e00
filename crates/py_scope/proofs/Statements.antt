-- The names in each form of a statement, by its parts as the code holds them.
use Rattle.std.proofs.Common.{◌≡◌, ◌⊎◌, inl, inr, ℕ, List, [], ◌∷◌, ◌++◌, Bool, Option, Vec, Global, sym, ap, ◌∙◌, append_assoc}
use Rattle.std.specs.Option.{option_map}
use Rattle.py_operator.specs.declared.operator.BinOp.{BinOp}
use Rattle.py_syntax.specs.declared.expr.Expr.{Expr as Node}
use Rattle.py_syntax.specs.declared.stmt.Alias.{Alias}
use Rattle.py_syntax.specs.declared.stmt.Arm.{Arm, out-Arm}
use Rattle.py_syntax.specs.declared.stmt.Case.{Case, out-Case}
use Rattle.py_syntax.specs.declared.stmt.Clause.{Clause, out-Clause}
use Rattle.py_syntax.specs.declared.stmt.Stmt.{Stmt, out-Stmt}
use Rattle.py_syntax.specs.declared.stmt.StmtKind.{StmtKind}
use Rattle.py_syntax.specs.declared.stmt.StmtKind as kind_
use Rattle.py_syntax.specs.declared.stmt.Suite.{Suite, out-Suite}
use Rattle.py_syntax.specs.Tree.{Text}
use Rattle.py_syntax.specs.View.{plain_expr, plain_pattern, plain_aliases, plain_stmts, plain_kind, plain_suite, plain_opt_suite, plain_arms, plain_clauses, plain_cases}
use Rattle.py_scope.specs.declared.occurrence.Occurrence.{Occurrence}
use Rattle.py_scope.specs.Occurrences.{in_expr, in_option, in_target, in_pattern, in_aliases, declaring, in_bound, occurrences, in_kind, in_suite, in_opt, in_arms, in_clauses, in_cases}
use Rattle.py_scope.specs.Parts.{in_assignment, in_augmented, in_assertion, in_definition}
use Rattle.py_scope.proofs.Forms.{plain-Suite, plain-stmts, plain-arms, plain-clauses, plain-cases, plain-Expr, plain-Assign, plain-AugAssign, plain-Pass, plain-Break, plain-Continue, plain-Return, plain-Raise, plain-Assert, plain-Global, plain-Import, plain-From, plain-If, plain-While, plain-For, plain-Try, plain-Def, plain-Match}

pub expr-is : (l : ℕ) (k : StmtKind) (e : Node) → k ≡ kind_.Expr e → in_kind l (plain_kind k) ≡ in_expr (plain_expr e)
expr-is l k e is = ap (λ q. in_kind l (plain_kind q)) is ∙ ap (in_kind l) (plain-Expr e)

pub assign-is : (l : ℕ) (k : StmtKind) (ts : Vec Node Global) (e : Node) (xs : List Node) → k ≡ kind_.Assign ts e → xs ≡ ts.items → in_kind l (plain_kind k) ≡ in_assignment xs e
assign-is l k ts e xs is p = ap (λ q. in_kind l (plain_kind q)) is ∙ ap (in_kind l) (plain-Assign ts e) ∙ ap (λ (z : List Node). in_assignment z e) (sym p)

pub aug_assign-is : (l : ℕ) (k : StmtKind) (x : Node) (op : BinOp) (e : Node) → k ≡ kind_.AugAssign x op e → in_kind l (plain_kind k) ≡ in_augmented x e
aug_assign-is l k x op e is = ap (λ q. in_kind l (plain_kind q)) is ∙ ap (in_kind l) (plain-AugAssign x op e)

pub pass-is : (l : ℕ) (k : StmtKind) → k ≡ kind_.Pass → in_kind l (plain_kind k) ≡ []
pass-is l k is = ap (λ q. in_kind l (plain_kind q)) is ∙ ap (in_kind l) plain-Pass

pub break-is : (l : ℕ) (k : StmtKind) → k ≡ kind_.Break → in_kind l (plain_kind k) ≡ []
break-is l k is = ap (λ q. in_kind l (plain_kind q)) is ∙ ap (in_kind l) plain-Break

pub continue-is : (l : ℕ) (k : StmtKind) → k ≡ kind_.Continue → in_kind l (plain_kind k) ≡ []
continue-is l k is = ap (λ q. in_kind l (plain_kind q)) is ∙ ap (in_kind l) plain-Continue

pub return-is : (l : ℕ) (k : StmtKind) (e : Option Node) → k ≡ kind_.Return e → in_kind l (plain_kind k) ≡ in_option (option_map plain_expr e)
return-is l k e is = ap (λ q. in_kind l (plain_kind q)) is ∙ ap (in_kind l) (plain-Return e)

pub raise-is : (l : ℕ) (k : StmtKind) (e : Option Node) → k ≡ kind_.Raise e → in_kind l (plain_kind k) ≡ in_option (option_map plain_expr e)
raise-is l k e is = ap (λ q. in_kind l (plain_kind q)) is ∙ ap (in_kind l) (plain-Raise e)

pub assert-is : (l : ℕ) (k : StmtKind) (e : Node) (w : Option Node) → k ≡ kind_.Assert e w → in_kind l (plain_kind k) ≡ in_assertion e w
assert-is l k e w is = ap (λ q. in_kind l (plain_kind q)) is ∙ ap (in_kind l) (plain-Assert e w)

pub global-is : (l : ℕ) (k : StmtKind) (xs : Vec Text Global) (ys : List Text) → k ≡ kind_.Global xs → ys ≡ xs.items → in_kind l (plain_kind k) ≡ declaring l ys
global-is l k xs ys is p = ap (λ q. in_kind l (plain_kind q)) is ∙ ap (in_kind l) (plain-Global xs) ∙ ap (λ (z : List Text). declaring l z) (sym p)

pub import-is : (l : ℕ) (k : StmtKind) (xs : Vec Alias Global) (ys : List Alias) → k ≡ kind_.Import xs → ys ≡ xs.items → in_kind l (plain_kind k) ≡ in_aliases (plain_aliases ys)
import-is l k xs ys is p = ap (λ q. in_kind l (plain_kind q)) is ∙ ap (in_kind l) (plain-Import xs) ∙ ap (λ (z : List Alias). in_aliases (plain_aliases z)) (sym p)

pub from-is : (l : ℕ) (k : StmtKind) (m : Text) (xs : Vec Alias Global) (ys : List Alias) → k ≡ kind_.From m xs → ys ≡ xs.items → in_kind l (plain_kind k) ≡ in_aliases (plain_aliases ys)
from-is l k m xs ys is p = ap (λ q. in_kind l (plain_kind q)) is ∙ ap (in_kind l) (plain-From m xs) ∙ ap (λ (z : List Alias). in_aliases (plain_aliases z)) (sym p)

pub if-is : (l : ℕ) (k : StmtKind) (rest : Vec Arm Global) (o : Option Suite) (xs : List Arm) → k ≡ kind_.If rest o → xs ≡ rest.items → in_kind l (plain_kind k) ≡ in_arms (plain_arms xs) ++ in_opt (plain_opt_suite o)
if-is l k rest o xs is p = ap (λ q. in_kind l (plain_kind q)) is ∙ ap (in_kind l) (plain-If rest o) ∙ ap (λ (z : List Arm). in_arms (plain_arms z) ++ in_opt (plain_opt_suite o)) (sym p)

pub while-is : (l : ℕ) (k : StmtKind) (e : Node) (b : Suite) (o : Option Suite) → k ≡ kind_.While e b o → in_kind l (plain_kind k) ≡ in_expr (plain_expr e) ++ (in_suite (plain_suite b) ++ in_opt (plain_opt_suite o))
while-is l k e b o is = ap (λ q. in_kind l (plain_kind q)) is ∙ ap (in_kind l) (plain-While e b o)

pub for-is : (l : ℕ) (k : StmtKind) (x : Node) (e : Node) (b : Suite) (o : Option Suite) → k ≡ kind_.For x e b o → in_kind l (plain_kind k) ≡ (in_target (plain_expr x) ++ in_expr (plain_expr e)) ++ (in_suite (plain_suite b) ++ in_opt (plain_opt_suite o))
for-is l k x e b o is = ap (λ q. in_kind l (plain_kind q)) is ∙ ap (in_kind l) (plain-For x e b o)

pub try-is : (l : ℕ) (k : StmtKind) (b : Suite) (cs : Vec Clause Global) (o : Option Suite) (f : Option Suite) (xs : List Clause) → k ≡ kind_.Try b cs o f → xs ≡ cs.items → in_kind l (plain_kind k) ≡ in_suite (plain_suite b) ++ (in_clauses (plain_clauses xs) ++ (in_opt (plain_opt_suite o) ++ in_opt (plain_opt_suite f)))
try-is l k b cs o f xs is p = ap (λ q. in_kind l (plain_kind q)) is ∙ ap (in_kind l) (plain-Try b cs o f) ∙ ap (λ (z : List Clause). in_suite (plain_suite b) ++ (in_clauses (plain_clauses z) ++ (in_opt (plain_opt_suite o) ++ in_opt (plain_opt_suite f)))) (sym p)

pub def-is : (l : ℕ) (k : StmtKind) (x : Text) (ps : Vec Text Global) (ds : Vec Node Global) (c : Bool) (b : Suite) (xs : List Node) → k ≡ kind_.Def x ps ds c b → xs ≡ ds.items → in_kind l (plain_kind k) ≡ in_definition x xs
def-is l k x ps ds c b xs is p = ap (λ q. in_kind l (plain_kind q)) is ∙ ap (in_kind l) (plain-Def x ps ds c b) ∙ ap (λ (z : List Node). in_definition x z) (sym p)

pub match-is : (l : ℕ) (k : StmtKind) (e : Node) (header : ℕ) (cs : Vec Case Global) (xs : List Case) → k ≡ kind_.Match e header cs → xs ≡ cs.items → in_kind l (plain_kind k) ≡ in_expr (plain_expr e) ++ in_cases (plain_cases xs)
match-is l k e header cs xs is p = ap (λ q. in_kind l (plain_kind q)) is ∙ ap (in_kind l) (plain-Match e header cs) ∙ ap (λ (z : List Case). in_expr (plain_expr e) ++ in_cases (plain_cases z)) (sym p)

pub idle-is : (l : ℕ) (k : StmtKind) → (k ≡ kind_.Pass) ⊎ ((k ≡ kind_.Break) ⊎ (k ≡ kind_.Continue)) → in_kind l (plain_kind k) ≡ []
idle-is l k (inl is) = pass-is l k is
idle-is l k (inr (inl is)) = break-is l k is
idle-is l k (inr (inr is)) = continue-is l k is

pub suite-is : (s : Suite) (ss : List Stmt) → ss ≡ (out-Suite s).body.items → in_suite (plain_suite s) ≡ occurrences (plain_stmts ss)
suite-is s ss p = ap in_suite (plain-Suite s) ∙ ap (λ (z : List Stmt). occurrences (plain_stmts z)) (sym p)

pub opt-is : (o w : Option Suite) → o ≡ w → in_opt (plain_opt_suite o) ≡ in_opt (plain_opt_suite w)
opt-is o w is = ap (λ z. in_opt (plain_opt_suite z)) is

-- ---- lists

pub stmts-step : (s : Stmt) (ss : List Stmt) → occurrences (plain_stmts (s ∷ ss)) ≡ in_kind (out-Stmt s).first (plain_kind (out-Stmt s).kind) ++ occurrences (plain_stmts ss)
stmts-step s ss = ap occurrences (plain-stmts s ss)

pub arms-step : (a : Arm) (rest : List Arm) → in_arms (plain_arms (a ∷ rest)) ≡ (in_expr (plain_expr (out-Arm a).test) ++ in_suite (plain_suite (out-Arm a).body)) ++ in_arms (plain_arms rest)
arms-step a rest = ap in_arms (plain-arms a rest) ∙ sym (append_assoc (in_expr (plain_expr (out-Arm a).test)) (in_suite (plain_suite (out-Arm a).body)) (in_arms (plain_arms rest)))

abbrev pub clause_header : Clause → List Occurrence
clause_header c = in_option (option_map plain_expr (out-Clause c).kind) ++ in_bound (out-Clause c).name

pub clauses-step : (c : Clause) (cs : List Clause) → in_clauses (plain_clauses (c ∷ cs)) ≡ (clause_header c ++ in_suite (plain_suite (out-Clause c).body)) ++ in_clauses (plain_clauses cs)
clauses-step c cs = ap in_clauses (plain-clauses c cs) ∙ sym (append_assoc (clause_header c) (in_suite (plain_suite (out-Clause c).body)) (in_clauses (plain_clauses cs)))

abbrev pub case_header : Case → List Occurrence
case_header c = in_pattern (plain_pattern (out-Case c).pattern) ++ in_option (option_map plain_expr (out-Case c).guard)

pub cases-step : (c : Case) (cs : List Case) → in_cases (plain_cases (c ∷ cs)) ≡ (case_header c ++ in_suite (plain_suite (out-Case c).body)) ++ in_cases (plain_cases cs)
cases-step c cs = ap in_cases (plain-cases c cs) ∙ sym (append_assoc (case_header c) (in_suite (plain_suite (out-Case c).body)) (in_cases (plain_cases cs)))
