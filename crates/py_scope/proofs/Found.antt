-- What is found in each form of a statement, by its parts as the code holds them.
use Rattle.std.proofs.Common.{◌≡◌, ◌⊎◌, inl, inr, ℕ, List, ◌∷◌, Bool, not, Option, Vec, Global, sym, ap, ◌∙◌}
use Rattle.py_operator.specs.declared.operator.BinOp.{BinOp}
use Rattle.py_syntax.specs.declared.expr.Expr.{Expr as Node}
use Rattle.py_syntax.specs.declared.stmt.Alias.{Alias}
use Rattle.py_syntax.specs.declared.stmt.Arm.{Arm, out-Arm}
use Rattle.py_syntax.specs.declared.stmt.Case.{Case}
use Rattle.py_syntax.specs.declared.stmt.Stmt.{Stmt, out-Stmt}
use Rattle.py_syntax.specs.declared.stmt.StmtKind.{StmtKind}
use Rattle.py_syntax.specs.declared.stmt.StmtKind as kind_
use Rattle.py_syntax.specs.declared.stmt.Suite.{Suite, out-Suite}
use Rattle.py_syntax.specs.Tree.{Text}
use Rattle.py_syntax.specs.View.{plain_stmts, plain_kind, plain_suite, plain_opt_suite, plain_arms, plain_cases}
use Rattle.py_scope.specs.declared.place.Place.{Place}
use Rattle.py_scope.specs.declared.error.ScopeError.TheVariants.{BreakOutside, ReturnOutside}
use Rattle.py_scope.specs.Faults.{nothing, ◌&◌, blame, function_place, in_loop, in_function, findings, kind_findings, suite_findings, function_findings, opt_findings, arms_findings, cases_findings}
use Rattle.py_scope.specs.Parts.{function_part}
use Rattle.py_scope.proofs.Forms.{plain-Suite, plain-stmts, plain-arms, plain-Expr, plain-Assign, plain-AugAssign, plain-Pass, plain-Break, plain-Continue, plain-Return, plain-Assert, plain-Global, plain-Import, plain-From, plain-If, plain-While, plain-For, plain-Def, plain-Match}

pub expr-is : (at : Place) (l : ℕ) (k : StmtKind) (e : Node) → k ≡ kind_.Expr e → kind_findings at l (plain_kind k) ≡ nothing
expr-is at l k e is = ap (λ q. kind_findings at l (plain_kind q)) is ∙ ap (kind_findings at l) (plain-Expr e)

pub assign-is : (at : Place) (l : ℕ) (k : StmtKind) (ts : Vec Node Global) (e : Node) → k ≡ kind_.Assign ts e → kind_findings at l (plain_kind k) ≡ nothing
assign-is at l k ts e is = ap (λ q. kind_findings at l (plain_kind q)) is ∙ ap (kind_findings at l) (plain-Assign ts e)

pub aug_assign-is : (at : Place) (l : ℕ) (k : StmtKind) (x : Node) (op : BinOp) (e : Node) → k ≡ kind_.AugAssign x op e → kind_findings at l (plain_kind k) ≡ nothing
aug_assign-is at l k x op e is = ap (λ q. kind_findings at l (plain_kind q)) is ∙ ap (kind_findings at l) (plain-AugAssign x op e)

pub pass-is : (at : Place) (l : ℕ) (k : StmtKind) → k ≡ kind_.Pass → kind_findings at l (plain_kind k) ≡ nothing
pass-is at l k is = ap (λ q. kind_findings at l (plain_kind q)) is ∙ ap (kind_findings at l) plain-Pass

pub assert-is : (at : Place) (l : ℕ) (k : StmtKind) (e : Node) (w : Option Node) → k ≡ kind_.Assert e w → kind_findings at l (plain_kind k) ≡ nothing
assert-is at l k e w is = ap (λ q. kind_findings at l (plain_kind q)) is ∙ ap (kind_findings at l) (plain-Assert e w)

pub global-is : (at : Place) (l : ℕ) (k : StmtKind) (xs : Vec Text Global) → k ≡ kind_.Global xs → kind_findings at l (plain_kind k) ≡ nothing
global-is at l k xs is = ap (λ q. kind_findings at l (plain_kind q)) is ∙ ap (kind_findings at l) (plain-Global xs)

pub import-is : (at : Place) (l : ℕ) (k : StmtKind) (xs : Vec Alias Global) → k ≡ kind_.Import xs → kind_findings at l (plain_kind k) ≡ nothing
import-is at l k xs is = ap (λ q. kind_findings at l (plain_kind q)) is ∙ ap (kind_findings at l) (plain-Import xs)

pub from-is : (at : Place) (l : ℕ) (k : StmtKind) (m : Text) (xs : Vec Alias Global) → k ≡ kind_.From m xs → kind_findings at l (plain_kind k) ≡ nothing
from-is at l k m xs is = ap (λ q. kind_findings at l (plain_kind q)) is ∙ ap (kind_findings at l) (plain-From m xs)

pub break-is : (at : Place) (l : ℕ) (k : StmtKind) → k ≡ kind_.Break → kind_findings at l (plain_kind k) ≡ blame (not at.looped) (BreakOutside l)
break-is at l k is = ap (λ q. kind_findings at l (plain_kind q)) is ∙ ap (kind_findings at l) plain-Break

pub continue-is : (at : Place) (l : ℕ) (k : StmtKind) → k ≡ kind_.Continue → kind_findings at l (plain_kind k) ≡ blame (not at.looped) (BreakOutside l)
continue-is at l k is = ap (λ q. kind_findings at l (plain_kind q)) is ∙ ap (kind_findings at l) plain-Continue

pub return-is : (at : Place) (l : ℕ) (k : StmtKind) (e : Option Node) → k ≡ kind_.Return e → kind_findings at l (plain_kind k) ≡ blame (not at.function) (ReturnOutside l)
return-is at l k e is = ap (λ q. kind_findings at l (plain_kind q)) is ∙ ap (kind_findings at l) (plain-Return e)

pub if-is : (at : Place) (l : ℕ) (k : StmtKind) (rest : Vec Arm Global) (o : Option Suite) (xs : List Arm) → k ≡ kind_.If rest o → xs ≡ rest.items → kind_findings at l (plain_kind k) ≡ arms_findings at (plain_arms xs) & opt_findings at (plain_opt_suite o)
if-is at l k rest o xs is p = ap (λ q. kind_findings at l (plain_kind q)) is ∙ ap (kind_findings at l) (plain-If rest o) ∙ ap (λ (z : List Arm). arms_findings at (plain_arms z) & opt_findings at (plain_opt_suite o)) (sym p)

pub while-is : (at : Place) (l : ℕ) (k : StmtKind) (e : Node) (b : Suite) (o : Option Suite) (inner : Place) → k ≡ kind_.While e b o → inner ≡ in_loop at → kind_findings at l (plain_kind k) ≡ suite_findings inner (plain_suite b) & opt_findings at (plain_opt_suite o)
while-is at l k e b o inner is p = ap (λ q. kind_findings at l (plain_kind q)) is ∙ ap (kind_findings at l) (plain-While e b o) ∙ ap (λ (z : Place). suite_findings z (plain_suite b) & opt_findings at (plain_opt_suite o)) (sym p)

pub for-is : (at : Place) (l : ℕ) (k : StmtKind) (x : Node) (e : Node) (b : Suite) (o : Option Suite) (inner : Place) → k ≡ kind_.For x e b o → inner ≡ in_loop at → kind_findings at l (plain_kind k) ≡ suite_findings inner (plain_suite b) & opt_findings at (plain_opt_suite o)
for-is at l k x e b o inner is p = ap (λ q. kind_findings at l (plain_kind q)) is ∙ ap (kind_findings at l) (plain-For x e b o) ∙ ap (λ (z : Place). suite_findings z (plain_suite b) & opt_findings at (plain_opt_suite o)) (sym p)

pub def-is : (at : Place) (l : ℕ) (k : StmtKind) (x : Text) (ps : Vec Text Global) (ds : Vec Node Global) (c : Bool) (b : Suite) (xs : List Text) → k ≡ kind_.Def x ps ds c b → xs ≡ ps.items → kind_findings at l (plain_kind k) ≡ function_part at l xs b
def-is at l k x ps ds c b xs is p = ap (λ q. kind_findings at l (plain_kind q)) is ∙ ap (kind_findings at l) (plain-Def x ps ds c b) ∙ ap (λ (z : List Text). function_part at l z b) (sym p)

pub match-is : (at : Place) (l : ℕ) (k : StmtKind) (e : Node) (header : ℕ) (cs : Vec Case Global) (xs : List Case) → k ≡ kind_.Match e header cs → xs ≡ cs.items → kind_findings at l (plain_kind k) ≡ cases_findings at (plain_cases xs)
match-is at l k e header cs xs is p = ap (λ q. kind_findings at l (plain_kind q)) is ∙ ap (kind_findings at l) (plain-Match e header cs) ∙ ap (λ (z : List Case). cases_findings at (plain_cases z)) (sym p)

-- statements in which nothing is found
pub plain-is : (at : Place) (l : ℕ) (k : StmtKind) → ((e : Node) × (k ≡ kind_.Expr e)) ⊎ (((ts : Vec Node Global) × (e : Node) × (k ≡ kind_.Assign ts e)) ⊎ (((x : Node) × (op : BinOp) × (e : Node) × (k ≡ kind_.AugAssign x op e)) ⊎ (k ≡ kind_.Pass)))
    → kind_findings at l (plain_kind k) ≡ nothing
plain-is at l k (inl (e, is)) = expr-is at l k e is
plain-is at l k (inr (inl (ts, e, is))) = assign-is at l k ts e is
plain-is at l k (inr (inr (inl (x, op, e, is)))) = aug_assign-is at l k x op e is
plain-is at l k (inr (inr (inr is))) = pass-is at l k is

pub named-is : (at : Place) (l : ℕ) (k : StmtKind) → ((e : Node) × (w : Option Node) × (k ≡ kind_.Assert e w)) ⊎ (((xs : Vec Text Global) × (k ≡ kind_.Global xs)) ⊎ (((xs : Vec Alias Global) × (k ≡ kind_.Import xs)) ⊎ ((m : Text) × (xs : Vec Alias Global) × (k ≡ kind_.From m xs))))
    → kind_findings at l (plain_kind k) ≡ nothing
named-is at l k (inl (e, w, is)) = assert-is at l k e w is
named-is at l k (inr (inl (xs, is))) = global-is at l k xs is
named-is at l k (inr (inr (inl (xs, is)))) = import-is at l k xs is
named-is at l k (inr (inr (inr (m, xs, is)))) = from-is at l k m xs is

pub jump-is : (at : Place) (l : ℕ) (k : StmtKind) → (k ≡ kind_.Break) ⊎ (k ≡ kind_.Continue) → kind_findings at l (plain_kind k) ≡ blame (not at.looped) (BreakOutside l)
jump-is at l k (inl is) = break-is at l k is
jump-is at l k (inr is) = continue-is at l k is

pub suite-is : (at : Place) (s : Suite) (ss : List Stmt) → ss ≡ (out-Suite s).body.items → suite_findings at (plain_suite s) ≡ findings at (plain_stmts ss)
suite-is at s ss p = ap (suite_findings at) (plain-Suite s) ∙ ap (λ (z : List Stmt). findings at (plain_stmts z)) (sym p)

pub function-is : (ps : List Text) (s : Suite) (xs ys : List Stmt) (top : Place) → xs ≡ (out-Suite s).body.items → ys ≡ (out-Suite s).body.items → top ≡ function_place
    → function_findings ps (plain_suite s) ≡ (in_function ps (plain_stmts xs) & findings top (plain_stmts ys))
function-is ps s xs ys top p q r =
    ap (function_findings ps) (plain-Suite s)
    ∙ ap (λ (z : List Stmt). in_function ps (plain_stmts z) & findings function_place (plain_stmts (out-Suite s).body.items)) (sym p)
    ∙ ap (λ (z : List Stmt). in_function ps (plain_stmts xs) & findings function_place (plain_stmts z)) (sym q)
    ∙ ap (λ (z : Place). in_function ps (plain_stmts xs) & findings z (plain_stmts ys)) (sym r)

pub opt-is : (at : Place) (o w : Option Suite) → o ≡ w → opt_findings at (plain_opt_suite o) ≡ opt_findings at (plain_opt_suite w)
opt-is at o w is = ap (λ z. opt_findings at (plain_opt_suite z)) is

-- ---- lists

pub stmts-step : (at : Place) (s : Stmt) (ss : List Stmt) → findings at (plain_stmts (s ∷ ss)) ≡ (kind_findings at (out-Stmt s).first (plain_kind (out-Stmt s).kind) & findings at (plain_stmts ss))
stmts-step at s ss = ap (findings at) (plain-stmts s ss)

pub arms-step : (at : Place) (a : Arm) (rest : List Arm) → arms_findings at (plain_arms (a ∷ rest)) ≡ (suite_findings at (plain_suite (out-Arm a).body) & arms_findings at (plain_arms rest))
arms-step at a rest = ap (arms_findings at) (plain-arms a rest)
