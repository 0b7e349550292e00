-- The plain view of statements with several parts, and of the parts of their lists.
use Rattle.std.proofs.Common.{◌≡◌, ℕ, ◌+◌, ◌==◌, Bool, true, false, List, [], ◌∷◌, ◌++◌, length, Option, Some, None, Vec, true≢false, refl, sym, ap, ◌∙◌}
use Rattle.std.specs.Global.{Global}
use Rattle.std.specs.Option.{option_map}
use Rattle.py_operator.specs.declared.operator.BinOp.{BinOp}
use Rattle.py_syntax.specs.declared.expr.Expr.{Expr as Node}
use Rattle.py_syntax.specs.declared.stmt.Alias.{Alias as AliasNode}
use Rattle.py_syntax.specs.declared.stmt.StmtKind as kind
use Rattle.py_syntax.specs.declared.stmt.StmtKind.{StmtKind as KindNode}
use Rattle.py_syntax.specs.declared.stmt.Arm.{Arm as ArmNode, out-Arm}
use Rattle.py_syntax.specs.declared.stmt.Arm as arms
use Rattle.py_syntax.specs.declared.stmt.Clause.{Clause as ClauseNode, out-Clause}
use Rattle.py_syntax.specs.declared.stmt.Clause as clauses
use Rattle.py_syntax.specs.declared.stmt.Case.{Case as CaseNode, out-Case}
use Rattle.py_syntax.specs.declared.stmt.Case as cases
use Rattle.py_syntax.specs.declared.stmt.Stmt.{Stmt as StmtNode, out-Stmt}
use Rattle.py_syntax.specs.declared.stmt.Stmt as stmts
use Rattle.py_syntax.specs.declared.stmt.Suite.{Suite as SuiteNode, out-Suite}
use Rattle.py_syntax.specs.declared.stmt.Suite as suites
use Rattle.py_syntax.specs.Functions.{Function}
use Rattle.py_syntax.specs.Tree.{stmt, Suite, suite, OptSuite, no_suite, has_suite, arm, clause, case, expr, assign, aug_assign, pass, break, continue, return, raise, assert, global, import, from, if', while, for, try, def, match, Text}
use Rattle.py_syntax.specs.View.{plain_expr, plain_exprs, plain_pattern, plain_aliases, plain_stmts, plain_kind, plain_suite, plain_opt_suite, plain_arms, plain_clauses, plain_cases}
use Rattle.py_code.specs.declared.instr.Instr.TheVariants.{Goto}
use Rattle.py_compile_expr.specs.Cells.{plain, put}
use Rattle.py_compile.specs.Statements.{stmts_code, opt_size, opt_code, clauses_size, clauses_code}
use Rattle.py_compile.specs.Ways.{Ways, in_try, in_hand}
use Rattle.py_compile_body.proofs.Ends.{not_none}
use Rattle.py_compile_body.specs.Parts.{suite_body, suite_line, suite_size, finally_ways, tried_ways, handlers_size, handlers_code}

expr_is : (e : Node) → plain_kind (kind.Expr e) ≡ expr (plain_expr e)
expr_is e = search kind.the_lemmas

aug_assign_is : (t : Node) (op : BinOp) (e : Node) → plain_kind (kind.AugAssign t op e) ≡ aug_assign (plain_expr t) op (plain_expr e)
aug_assign_is t op e = search kind.the_lemmas

pass_is : plain_kind kind.Pass ≡ pass
pass_is = search kind.the_lemmas

break_is : plain_kind kind.Break ≡ break
break_is = search kind.the_lemmas

continue_is : plain_kind kind.Continue ≡ continue
continue_is = search kind.the_lemmas

return_is : (e : Option Node) → plain_kind (kind.Return e) ≡ return (option_map plain_expr e)
return_is None = search kind.the_lemmas
return_is (Some e) = search kind.the_lemmas

raise_is : (e : Option Node) → plain_kind (kind.Raise e) ≡ raise (option_map plain_expr e)
raise_is None = search kind.the_lemmas
raise_is (Some e) = search kind.the_lemmas

global_is : (xs : Vec Text Global) → plain_kind (kind.Global xs) ≡ global xs.items
global_is xs = search kind.the_lemmas

import_is : (names : Vec AliasNode Global) → plain_kind (kind.Import names) ≡ import (plain_aliases names.items)
import_is names = search kind.the_lemmas

from_is : (m : Text) (names : Vec AliasNode Global) → plain_kind (kind.From m names) ≡ from m (plain_aliases names.items)
from_is m names = search kind.the_lemmas

def_is : (x : Text) (ps : Vec Text Global) (ds : Vec Node Global) (c : Bool) (b : SuiteNode) → plain_kind (kind.Def x ps ds c b) ≡ def x ps.items (plain_exprs ds.items) c (plain_suite b)
def_is x ps ds c b = search kind.the_lemmas

assign_is : (ts : Vec Node Global) (e : Node) → plain_kind (kind.Assign ts e) ≡ assign (plain_exprs ts.items) (plain_expr e)
assign_is ts e = search kind.the_lemmas

assert_is : (t : Node) (why : Option Node) → plain_kind (kind.Assert t why) ≡ assert (plain_expr t) (option_map plain_expr why)
assert_is t None = search kind.the_lemmas
assert_is t (Some e) = search kind.the_lemmas

if_is : (items : Vec ArmNode Global) (o : Option SuiteNode) → plain_kind (kind.If items o) ≡ if' (plain_arms items.items) (plain_opt_suite o)
if_is items None = search kind.the_lemmas
if_is items (Some s) = search kind.the_lemmas

while_is : (t : Node) (b : SuiteNode) (o : Option SuiteNode) → plain_kind (kind.While t b o) ≡ while (plain_expr t) (plain_suite b) (plain_opt_suite o)
while_is t b None = search kind.the_lemmas
while_is t b (Some s) = search kind.the_lemmas

for_is : (t e : Node) (b : SuiteNode) (o : Option SuiteNode) → plain_kind (kind.For t e b o) ≡ for (plain_expr t) (plain_expr e) (plain_suite b) (plain_opt_suite o)
for_is t e b None = search kind.the_lemmas
for_is t e b (Some s) = search kind.the_lemmas

try_is : (b : SuiteNode) (cs : Vec ClauseNode Global) (o f : Option SuiteNode) → plain_kind (kind.Try b cs o f) ≡ try (plain_suite b) (plain_clauses cs.items) (plain_opt_suite o) (plain_opt_suite f)
try_is b cs None None = search kind.the_lemmas
try_is b cs None (Some f) = search kind.the_lemmas
try_is b cs (Some o) None = search kind.the_lemmas
try_is b cs (Some o) (Some f) = search kind.the_lemmas

match_is : (e : Node) (n : ℕ) (cs : Vec CaseNode Global) → plain_kind (kind.Match e n cs) ≡ match (plain_expr e) n (plain_cases cs.items)
match_is e n cs = search kind.the_lemmas

pub suite_is : (s : SuiteNode) → plain_suite s ≡ suite (out-Suite s).first (out-Suite s).last (out-Suite s).inline (plain_stmts (out-Suite s).body.items)
suite_is s = search suites.the_lemmas

pub body_is : (s : SuiteNode) → suite_body (plain_suite s) ≡ plain_stmts (out-Suite s).body.items
body_is s = ap suite_body (suite_is s)

pub line_is : (s : SuiteNode) → suite_line (plain_suite s) ≡ (out-Suite s).first
line_is s = ap suite_line (suite_is s)

pub arms_are : (a : ArmNode) (rest : List ArmNode) → plain_arms (a ∷ rest) ≡ arm (plain_expr (out-Arm a).test) (plain_suite (out-Arm a).body) (plain_arms rest)
arms_are a rest = search arms.the_lemmas

pub clauses_are : (c : ClauseNode) (rest : List ClauseNode) → plain_clauses (c ∷ rest) ≡ clause (option_map plain_expr (out-Clause c).kind) (out-Clause c).name (plain_suite (out-Clause c).body) (plain_clauses rest)
clauses_are c rest = search clauses.the_lemmas

pub cases_are : (c : CaseNode) (rest : List CaseNode) → plain_cases (c ∷ rest) ≡ case (plain_pattern (out-Case c).pattern) (option_map plain_expr (out-Case c).guard) (plain_suite (out-Case c).body) (plain_cases rest)
cases_are c rest = search cases.the_lemmas

-- ---- what is shown of a statement, by its parts as the code holds them

pub expr_shown : (k : KindNode) (e : Node) → k ≡ kind.Expr e → plain_kind k ≡ expr (plain_expr e)
expr_shown k e is = ap plain_kind is ∙ expr_is e

pub aug_assign_shown : (k : KindNode) (t : Node) (op : BinOp) (e : Node) → k ≡ kind.AugAssign t op e → plain_kind k ≡ aug_assign (plain_expr t) op (plain_expr e)
aug_assign_shown k t op e is = ap plain_kind is ∙ aug_assign_is t op e

pub pass_shown : (k : KindNode) → k ≡ kind.Pass → plain_kind k ≡ pass
pass_shown k is = ap plain_kind is ∙ pass_is

pub break_shown : (k : KindNode) → k ≡ kind.Break → plain_kind k ≡ break
break_shown k is = ap plain_kind is ∙ break_is

pub continue_shown : (k : KindNode) → k ≡ kind.Continue → plain_kind k ≡ continue
continue_shown k is = ap plain_kind is ∙ continue_is

pub return_shown : (k : KindNode) (e : Option Node) → k ≡ kind.Return e → plain_kind k ≡ return (option_map plain_expr e)
return_shown k e is = ap plain_kind is ∙ return_is e

pub raise_shown : (k : KindNode) (e : Option Node) → k ≡ kind.Raise e → plain_kind k ≡ raise (option_map plain_expr e)
raise_shown k e is = ap plain_kind is ∙ raise_is e

pub global_shown : (k : KindNode) (xs : Vec Text Global) → k ≡ kind.Global xs → plain_kind k ≡ global xs.items
global_shown k xs is = ap plain_kind is ∙ global_is xs

pub import_shown : (k : KindNode) (names : Vec AliasNode Global) (xs : List AliasNode) → k ≡ kind.Import names → xs ≡ names.items → plain_kind k ≡ import (plain_aliases xs)
import_shown k names xs is same = ap plain_kind is ∙ import_is names ∙ ap (λ ys. import (plain_aliases ys)) (sym same)

pub from_shown : (k : KindNode) (m : Text) (names : Vec AliasNode Global) (xs : List AliasNode) → k ≡ kind.From m names → xs ≡ names.items → plain_kind k ≡ from m (plain_aliases xs)
from_shown k m names xs is same = ap plain_kind is ∙ from_is m names ∙ ap (λ ys. from m (plain_aliases ys)) (sym same)

pub def_shown : (k : KindNode) (x : Text) (ps : Vec Text Global) (ds : Vec Node Global) (c : Bool) (b : SuiteNode) (xs : List Node) → k ≡ kind.Def x ps ds c b → xs ≡ ds.items
    → plain_kind k ≡ def x ps.items (plain_exprs xs) c (plain_suite b)
def_shown k x ps ds c b xs is same = ap plain_kind is ∙ def_is x ps ds c b ∙ ap (λ ys. def x ps.items (plain_exprs ys) c (plain_suite b)) (sym same)

pub assign_shown : (k : KindNode) (ts : Vec Node Global) (e : Node) (xs : List Node) → k ≡ kind.Assign ts e → xs ≡ ts.items → plain_kind k ≡ assign (plain_exprs xs) (plain_expr e)
assign_shown k ts e xs is same = ap plain_kind is ∙ assign_is ts e ∙ ap (λ ys. assign (plain_exprs ys) (plain_expr e)) (sym same)

pub assert_shown : (k : KindNode) (t : Node) (why : Option Node) → k ≡ kind.Assert t why → plain_kind k ≡ assert (plain_expr t) (option_map plain_expr why)
assert_shown k t why is = ap plain_kind is ∙ assert_is t why

pub if_shown : (k : KindNode) (items : Vec ArmNode Global) (o : Option SuiteNode) (xs : List ArmNode) → k ≡ kind.If items o → xs ≡ items.items → plain_kind k ≡ if' (plain_arms xs) (plain_opt_suite o)
if_shown k items o xs is same = ap plain_kind is ∙ if_is items o ∙ ap (λ ys. if' (plain_arms ys) (plain_opt_suite o)) (sym same)

pub while_shown : (k : KindNode) (t : Node) (b : SuiteNode) (o : Option SuiteNode) → k ≡ kind.While t b o → plain_kind k ≡ while (plain_expr t) (plain_suite b) (plain_opt_suite o)
while_shown k t b o is = ap plain_kind is ∙ while_is t b o

pub for_shown : (k : KindNode) (t e : Node) (b : SuiteNode) (o : Option SuiteNode) → k ≡ kind.For t e b o → plain_kind k ≡ for (plain_expr t) (plain_expr e) (plain_suite b) (plain_opt_suite o)
for_shown k t e b o is = ap plain_kind is ∙ for_is t e b o

pub try_shown : (k : KindNode) (b : SuiteNode) (cs : Vec ClauseNode Global) (o f : Option SuiteNode) (xs : List ClauseNode) → k ≡ kind.Try b cs o f → xs ≡ cs.items
    → plain_kind k ≡ try (plain_suite b) (plain_clauses xs) (plain_opt_suite o) (plain_opt_suite f)
try_shown k b cs o f xs is same = ap plain_kind is ∙ try_is b cs o f ∙ ap (λ ys. try (plain_suite b) (plain_clauses ys) (plain_opt_suite o) (plain_opt_suite f)) (sym same)

pub match_shown : (k : KindNode) (e : Node) (n : ℕ) (cs : Vec CaseNode Global) (xs : List CaseNode) → k ≡ kind.Match e n cs → xs ≡ cs.items → plain_kind k ≡ match (plain_expr e) n (plain_cases xs)
match_shown k e n cs xs is same = ap plain_kind is ∙ match_is e n cs ∙ ap (λ ys. match (plain_expr e) n (plain_cases ys)) (sym same)

-- ---- clauses, where there are some

pub tried_is : (xs : List ClauseNode) (w : Ways) (to : ℕ) → (length xs == 0) ≡ false → tried_ways (plain_clauses xs) w to ≡ in_try w to
tried_is [] w to e = absurd cc
tried_is (c ∷ xs) w to e = ap (λ cs. tried_ways cs w to) (clauses_are c xs)

pub handlers_size-is : (h : Bool) (xs : List ClauseNode) → (length xs == 0) ≡ false → handlers_size h (plain_clauses xs) ≡ clauses_size h (plain_clauses xs) + 1
handlers_size-is h [] e = absurd cc
handlers_size-is h (c ∷ xs) e = ap (handlers_size h) (clauses_are c xs) ∙ ap (λ cs. clauses_size h cs + 1) (sym (clauses_are c xs))

pub handlers_code-is : (fs : List Function) (w : Ways) (p end : ℕ) (xs : List ClauseNode) → (length xs == 0) ≡ false
    → handlers_code fs w p end (plain_clauses xs) ≡ put w.guard (plain (Goto end)) (clauses_code fs w (p + 1) end (plain_clauses xs))
handlers_code-is fs w p end [] e = absurd cc
handlers_code-is fs w p end (c ∷ xs) e =
    ap (handlers_code fs w p end) (clauses_are c xs) ∙ ap (λ cs. put w.guard (plain (Goto end)) (clauses_code fs w (p + 1) end cs)) (sym (clauses_are c xs))

pub handlers_size-none : (h : Bool) (xs : List ClauseNode) → (length xs == 0) ≡ true → handlers_size h (plain_clauses xs) ≡ 0
handlers_size-none h [] e = refl
handlers_size-none h (c ∷ xs) e = absurd (true≢false (sym e ∙ not_none (length xs)))

pub handlers_code-none : (fs : List Function) (w : Ways) (p end : ℕ) (xs : List ClauseNode) → (length xs == 0) ≡ true → handlers_code fs w p end (plain_clauses xs) ≡ []
handlers_code-none fs w p end [] e = refl
handlers_code-none fs w p end (c ∷ xs) e = absurd (true≢false (sym e ∙ not_none (length xs)))

pub handlers_node : (fs : List Function) (w : Ways) (p begin end : ℕ) (xs : List ClauseNode) → (length xs == 0) ≡ false → begin ≡ p + 1
    → handlers_code fs w p end (plain_clauses xs) ≡ put w.guard (plain (Goto end)) [] ++ clauses_code fs w begin end (plain_clauses xs)
handlers_node fs w p begin end xs e a =
    handlers_code-is fs w p end xs e ∙ ap (λ n. put w.guard (plain (Goto end)) (clauses_code fs w n end (plain_clauses xs))) (sym a)

-- ---- statements in a row

pub stmts_are : (s : StmtNode) (rest : List StmtNode) → plain_stmts (s ∷ rest) ≡ stmt (out-Stmt s).first (out-Stmt s).last (plain_kind (out-Stmt s).kind) (out-Stmt s).end (plain_stmts rest)
stmts_are s rest = search stmts.the_lemmas

-- ---- an exception is handled where it was

pub finally_hand : (o : OptSuite) (w : Ways) (to : ℕ) → in_hand (finally_ways o w to) ≡ in_hand w
finally_hand no_suite w to = refl
finally_hand (has_suite s) w to = refl

-- ---- the suite of an `else`

pub opt_some_size : (h : Bool) (s : Suite) → opt_size h (has_suite s) ≡ suite_size h s
opt_some_size h (suite f g i b) = refl

pub opt_some_code : (fs : List Function) (w : Ways) (p : ℕ) (s : Suite) → opt_code fs w p (has_suite s) ≡ stmts_code fs w p (suite_body s)
opt_some_code fs w p (suite f g i b) = refl
