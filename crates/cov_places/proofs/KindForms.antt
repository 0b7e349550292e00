-- Statements and their parts, as the code holds them.
use Rattle.std.proofs.Common.{◌≡◌, ℕ, List, ◌∷◌, Bool, Option, Some, None, Vec, Global, sym, ap, ◌∙◌}
use Rattle.std.specs.Option.{option_map}
use Rattle.py_operator.specs.declared.operator.BinOp.{BinOp}
use Rattle.py_syntax.specs.declared.expr.Expr.{Expr as Node}
use Rattle.py_syntax.specs.declared.pattern.Pattern.{Pattern as PatternNode}
use Rattle.py_syntax.specs.declared.stmt.Alias.{Alias}
use Rattle.py_syntax.specs.declared.stmt.Arm.{Arm, roll-Arm}
use Rattle.py_syntax.specs.declared.stmt.Arm as arms_
use Rattle.py_syntax.specs.declared.stmt.Case.{Case, roll-Case}
use Rattle.py_syntax.specs.declared.stmt.Case as cases_
use Rattle.py_syntax.specs.declared.stmt.Clause.{Clause, roll-Clause}
use Rattle.py_syntax.specs.declared.stmt.Clause as clauses_
use Rattle.py_syntax.specs.declared.stmt.LineEnd.{LineEnd}
use Rattle.py_syntax.specs.declared.stmt.Stmt.{Stmt, roll-Stmt}
use Rattle.py_syntax.specs.declared.stmt.Stmt as stmts_
use Rattle.py_syntax.specs.declared.stmt.StmtKind.{StmtKind}
use Rattle.py_syntax.specs.declared.stmt.StmtKind as kind_
use Rattle.py_syntax.specs.declared.stmt.Suite.{Suite, out-Suite}
use Rattle.py_syntax.specs.declared.stmt.Suite as suites
use Rattle.py_syntax.specs.Tree.{Text, Stmts, stmt, suite, Arms, arm, Clauses, clause, Cases, case, expr, assign, aug_assign, pass, break, continue, return, raise, assert, global, import, from, if', while, for, try, def, match}
use Rattle.py_syntax.specs.View.{plain_expr, plain_exprs, plain_pattern, plain_aliases, plain_stmts, plain_kind, plain_suite, plain_opt_suite, plain_arms, plain_clauses, plain_cases}
use Rattle.py_changes.specs.Mutants.{header_line}
use Rattle.cov_places.specs.ItemRows.{put_stmt, put_arm, put_clause, put_case}

pub plain-Suite : (s : Suite) → plain_suite s ≡ suite (out-Suite s).first (out-Suite s).last (out-Suite s).inline (plain_stmts (out-Suite s).body.items)
plain-Suite s = search suites.the_lemmas

pub stmts-step : (s : Stmt) (ss : List Stmt) → plain_stmts (s ∷ ss) ≡ put_stmt s (plain_stmts ss)
stmts-step s ss = search stmts_.the_lemmas

pub arms-step : (a : Arm) (rest : List Arm) → plain_arms (a ∷ rest) ≡ put_arm a (plain_arms rest)
arms-step a rest = search arms_.the_lemmas

pub clauses-step : (c : Clause) (cs : List Clause) → plain_clauses (c ∷ cs) ≡ put_clause c (plain_clauses cs)
clauses-step c cs = search clauses_.the_lemmas

pub cases-step : (c : Case) (cs : List Case) → plain_cases (c ∷ cs) ≡ put_case c (plain_cases cs)
cases-step c cs = search cases_.the_lemmas

pub stmt-put : (f l : ℕ) (k : StmtKind) (e : LineEnd) (r : Stmts) → put_stmt (roll-Stmt (record { first = f; last = l; kind = k; end = e })) r ≡ stmt f l (plain_kind k) e r
stmt-put f l k e r = search stmts_.the_lemmas

pub arm-put : (e : Node) (s : Suite) (r : Arms) → put_arm (roll-Arm (record { test = e; body = s })) r ≡ arm (plain_expr e) (plain_suite s) r
arm-put e s r = search arms_.the_lemmas

pub clause-put : (k : Option Node) (n : Option Text) (s : Suite) (r : Clauses) → put_clause (roll-Clause (record { kind = k; name = n; body = s })) r ≡ clause (option_map plain_expr k) n (plain_suite s) r
clause-put k n s r = search clauses_.the_lemmas

pub case-put : (p : PatternNode) (g : Option Node) (s : Suite) (r : Cases) → put_case (roll-Case (record { pattern = p; guard = g; body = s })) r ≡ case (plain_pattern p) (option_map plain_expr g) (plain_suite s) r
case-put p g s r = search cases_.the_lemmas

pub expr-is : (k : StmtKind) (e : Node) → k ≡ kind_.Expr e → plain_kind k ≡ expr (plain_expr e)
expr-is k e is = ap plain_kind is ∙ plain
  where
    plain : plain_kind (kind_.Expr e) ≡ expr (plain_expr e)
    plain = search kind_.the_lemmas

plain-Assign : (ts : Vec Node Global) (e : Node) → plain_kind (kind_.Assign ts e) ≡ assign (plain_exprs ts.items) (plain_expr e)
plain-Assign ts e = search kind_.the_lemmas

pub assign-is : (k : StmtKind) (ts : Vec Node Global) (e : Node) (d_ts : List Node) → k ≡ kind_.Assign ts e → d_ts ≡ ts.items → plain_kind k ≡ assign (plain_exprs d_ts) (plain_expr e)
assign-is k ts e d_ts is e_ts = ap plain_kind is ∙ plain-Assign ts e ∙ ap (λ (z : List Node). assign (plain_exprs z) (plain_expr e)) (sym e_ts)

plain-AugAssign : (x : Node) (op : BinOp) (e : Node) → plain_kind (kind_.AugAssign x op e) ≡ aug_assign (plain_expr x) op (plain_expr e)
plain-AugAssign x op e = search kind_.the_lemmas

pub aug_assign-is : (k : StmtKind) (x : Node) (op : BinOp) (e : Node) → k ≡ kind_.AugAssign x op e → plain_kind k ≡ aug_assign (plain_expr x) op (plain_expr e)
aug_assign-is k x op e is = ap plain_kind is ∙ plain-AugAssign x op e

pub plain-Pass : plain_kind (kind_.Pass) ≡ pass
plain-Pass = search kind_.the_lemmas

pub pass-is : (k : StmtKind) → k ≡ kind_.Pass → plain_kind k ≡ pass
pass-is k is = ap plain_kind is ∙ plain-Pass

pub plain-Break : plain_kind (kind_.Break) ≡ break
plain-Break = search kind_.the_lemmas

pub break-is : (k : StmtKind) → k ≡ kind_.Break → plain_kind k ≡ break
break-is k is = ap plain_kind is ∙ plain-Break

pub plain-Continue : plain_kind (kind_.Continue) ≡ continue
plain-Continue = search kind_.the_lemmas

pub continue-is : (k : StmtKind) → k ≡ kind_.Continue → plain_kind k ≡ continue
continue-is k is = ap plain_kind is ∙ plain-Continue

plain-Return : (e : Option Node) → plain_kind (kind_.Return e) ≡ return (option_map plain_expr e)
plain-Return e = search kind_.the_lemmas

pub return-is : (k : StmtKind) (e : Option Node) → k ≡ kind_.Return e → plain_kind k ≡ return (option_map plain_expr e)
return-is k e is = ap plain_kind is ∙ plain-Return e

plain-Raise : (e : Option Node) → plain_kind (kind_.Raise e) ≡ raise (option_map plain_expr e)
plain-Raise e = search kind_.the_lemmas

pub raise-is : (k : StmtKind) (e : Option Node) → k ≡ kind_.Raise e → plain_kind k ≡ raise (option_map plain_expr e)
raise-is k e is = ap plain_kind is ∙ plain-Raise e

plain-Assert : (e : Node) (w : Option Node) → plain_kind (kind_.Assert e w) ≡ assert (plain_expr e) (option_map plain_expr w)
plain-Assert e w = search kind_.the_lemmas

pub assert-is : (k : StmtKind) (e : Node) (w : Option Node) → k ≡ kind_.Assert e w → plain_kind k ≡ assert (plain_expr e) (option_map plain_expr w)
assert-is k e w is = ap plain_kind is ∙ plain-Assert e w

plain-Global : (xs : Vec Text Global) → plain_kind (kind_.Global xs) ≡ global xs.items
plain-Global xs = search kind_.the_lemmas

pub global-is : (k : StmtKind) (xs : Vec Text Global) (d_xs : List Text) → k ≡ kind_.Global xs → d_xs ≡ xs.items → plain_kind k ≡ global d_xs
global-is k xs d_xs is e_xs = ap plain_kind is ∙ plain-Global xs ∙ ap (λ (z : List Text). global z) (sym e_xs)

plain-Import : (xs : Vec Alias Global) → plain_kind (kind_.Import xs) ≡ import (plain_aliases xs.items)
plain-Import xs = search kind_.the_lemmas

pub import-is : (k : StmtKind) (xs : Vec Alias Global) (d_xs : List Alias) → k ≡ kind_.Import xs → d_xs ≡ xs.items → plain_kind k ≡ import (plain_aliases d_xs)
import-is k xs d_xs is e_xs = ap plain_kind is ∙ plain-Import xs ∙ ap (λ (z : List Alias). import (plain_aliases z)) (sym e_xs)

plain-From : (m : Text) (xs : Vec Alias Global) → plain_kind (kind_.From m xs) ≡ from m (plain_aliases xs.items)
plain-From m xs = search kind_.the_lemmas

pub from-is : (k : StmtKind) (m : Text) (xs : Vec Alias Global) (d_xs : List Alias) → k ≡ kind_.From m xs → d_xs ≡ xs.items → plain_kind k ≡ from m (plain_aliases d_xs)
from-is k m xs d_xs is e_xs = ap plain_kind is ∙ plain-From m xs ∙ ap (λ (z : List Alias). from m (plain_aliases z)) (sym e_xs)

plain-If : (rest : Vec Arm Global) (o : Option Suite) → plain_kind (kind_.If rest o) ≡ if' (plain_arms rest.items) (plain_opt_suite o)
plain-If rest None = search kind_.the_lemmas
plain-If rest (Some o) = search kind_.the_lemmas

pub if-is : (k : StmtKind) (rest : Vec Arm Global) (o : Option Suite) (d_rest : List Arm) → k ≡ kind_.If rest o → d_rest ≡ rest.items → plain_kind k ≡ if' (plain_arms d_rest) (plain_opt_suite o)
if-is k rest o d_rest is e_rest = ap plain_kind is ∙ plain-If rest o ∙ ap (λ (z : List Arm). if' (plain_arms z) (plain_opt_suite o)) (sym e_rest)

plain-While : (e : Node) (b : Suite) (o : Option Suite) → plain_kind (kind_.While e b o) ≡ while (plain_expr e) (plain_suite b) (plain_opt_suite o)
plain-While e b None = search kind_.the_lemmas
plain-While e b (Some o) = search kind_.the_lemmas

pub while-is : (k : StmtKind) (e : Node) (b : Suite) (o : Option Suite) → k ≡ kind_.While e b o → plain_kind k ≡ while (plain_expr e) (plain_suite b) (plain_opt_suite o)
while-is k e b o is = ap plain_kind is ∙ plain-While e b o

plain-For : (x : Node) (e : Node) (b : Suite) (o : Option Suite) → plain_kind (kind_.For x e b o) ≡ for (plain_expr x) (plain_expr e) (plain_suite b) (plain_opt_suite o)
plain-For x e b None = search kind_.the_lemmas
plain-For x e b (Some o) = search kind_.the_lemmas

pub for-is : (k : StmtKind) (x : Node) (e : Node) (b : Suite) (o : Option Suite) → k ≡ kind_.For x e b o → plain_kind k ≡ for (plain_expr x) (plain_expr e) (plain_suite b) (plain_opt_suite o)
for-is k x e b o is = ap plain_kind is ∙ plain-For x e b o

plain-Try : (b : Suite) (cs : Vec Clause Global) (o : Option Suite) (f : Option Suite) → plain_kind (kind_.Try b cs o f) ≡ try (plain_suite b) (plain_clauses cs.items) (plain_opt_suite o) (plain_opt_suite f)
plain-Try b cs None None = search kind_.the_lemmas
plain-Try b cs None (Some f) = search kind_.the_lemmas
plain-Try b cs (Some o) None = search kind_.the_lemmas
plain-Try b cs (Some o) (Some f) = search kind_.the_lemmas

pub try-is : (k : StmtKind) (b : Suite) (cs : Vec Clause Global) (o : Option Suite) (f : Option Suite) (d_cs : List Clause) → k ≡ kind_.Try b cs o f → d_cs ≡ cs.items → plain_kind k ≡ try (plain_suite b) (plain_clauses d_cs) (plain_opt_suite o) (plain_opt_suite f)
try-is k b cs o f d_cs is e_cs = ap plain_kind is ∙ plain-Try b cs o f ∙ ap (λ (z : List Clause). try (plain_suite b) (plain_clauses z) (plain_opt_suite o) (plain_opt_suite f)) (sym e_cs)

plain-Def : (x : Text) (ps : Vec Text Global) (ds : Vec Node Global) (c : Bool) (b : Suite) → plain_kind (kind_.Def x ps ds c b) ≡ def x ps.items (plain_exprs ds.items) c (plain_suite b)
plain-Def x ps ds c b = search kind_.the_lemmas

pub def-is : (k : StmtKind) (x : Text) (ps : Vec Text Global) (ds : Vec Node Global) (c : Bool) (b : Suite) (d_ps : List Text) (d_ds : List Node) → k ≡ kind_.Def x ps ds c b → d_ps ≡ ps.items → d_ds ≡ ds.items → plain_kind k ≡ def x d_ps (plain_exprs d_ds) c (plain_suite b)
def-is k x ps ds c b d_ps d_ds is e_ps e_ds = ap plain_kind is ∙ plain-Def x ps ds c b ∙ ap (λ (z : List Text). def x z (plain_exprs ds.items) c (plain_suite b)) (sym e_ps) ∙ ap (λ (z : List Node). def x d_ps (plain_exprs z) c (plain_suite b)) (sym e_ds)

plain-Match : (e : Node) (header : ℕ) (cs : Vec Case Global) → plain_kind (kind_.Match e header cs) ≡ match (plain_expr e) header (plain_cases cs.items)
plain-Match e header cs = search kind_.the_lemmas

pub match-is : (k : StmtKind) (e : Node) (header : ℕ) (cs : Vec Case Global) (d_cs : List Case) → k ≡ kind_.Match e header cs → d_cs ≡ cs.items → plain_kind k ≡ match (plain_expr e) header (plain_cases d_cs)
match-is k e header cs d_cs is e_cs = ap plain_kind is ∙ plain-Match e header cs ∙ ap (λ (z : List Case). match (plain_expr e) header (plain_cases z)) (sym e_cs)

pub suite-is : (s : Suite) (ss : List Stmt) → ss ≡ (out-Suite s).body.items
    → plain_suite s ≡ suite (out-Suite s).first (out-Suite s).last (out-Suite s).inline (plain_stmts ss)
suite-is s ss p = plain-Suite s ∙ ap (λ (z : List Stmt). suite (out-Suite s).first (out-Suite s).last (out-Suite s).inline (plain_stmts z)) (sym p)

pub header-is : (s : Suite) → header_line (plain_suite s) ≡ (out-Suite s).first
header-is s = ap header_line (plain-Suite s)
