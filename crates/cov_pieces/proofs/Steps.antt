-- What is written of the items of lists, one after another.
use Rattle.std.proofs.Common.{◌≡◌, ◌⊎◌, inl, inr, ℕ, Bool, true, false, List, [], ◌∷◌, ◌++◌, Option, Vec, Global, refl, ap, sym, ◌∙◌, append_assoc}
use Rattle.std.specs.Option.{option_map}
use Rattle.py_operator.specs.declared.operator.BinOp.{BinOp}
use Rattle.py_syntax.specs.declared.expr.Expr.{Expr as Node}
use Rattle.py_syntax.specs.declared.expr.Link.{Link, out-Link}
use Rattle.py_syntax.specs.declared.expr.Pair.{Pair, out-Pair}
use Rattle.py_syntax.specs.declared.stmt.Alias.{Alias as AliasNode}
use Rattle.py_syntax.specs.declared.stmt.Arm.{Arm, out-Arm}
use Rattle.py_syntax.specs.declared.stmt.Case.{Case, out-Case}
use Rattle.py_syntax.specs.declared.stmt.Clause.{Clause, out-Clause}
use Rattle.py_syntax.specs.declared.stmt.LineEnd.{LineEnd}
use Rattle.py_syntax.specs.declared.stmt.Stmt.{Stmt, out-Stmt}
use Rattle.py_syntax.specs.declared.stmt.StmtKind.{StmtKind as KindNode}
use Rattle.py_syntax.specs.declared.stmt.StmtKind as kind_
use Rattle.py_syntax.specs.declared.stmt.Suite.{Suite as SuiteNode, out-Suite}
use Rattle.py_syntax.specs.Functions.{is_docstring}
use Rattle.py_syntax.specs.Tree.{Text, Expr, Pattern, Stmts, no_stmts, stmt, Suite, suite, Arms, arm, Clauses, clause, Cases, case, StmtKind as Kind, expr, assign, aug_assign, return, raise, assert, global, import, from, if', while, for, try, def, match}
use Rattle.py_syntax.specs.View.{plain_expr, plain_exprs, plain_pairs, plain_links, plain_pattern, plain_aliases, plain_stmts, plain_kind, plain_suite, plain_opt_suite, plain_arms, plain_clauses, plain_cases}
use Rattle.py_scope.proofs.Forms.{plain-Suite, plain-stmts, plain-arms, plain-clauses, plain-cases, plain-Expr, plain-Assign, plain-AugAssign, plain-Pass, plain-Break, plain-Continue, plain-Return, plain-Raise, plain-Assert, plain-Global, plain-Import, plain-From, plain-If, plain-While, plain-For, plain-Try, plain-Def, plain-Match}
use Rattle.py_changes.specs.Changed.{kind_number}
use Rattle.cov_pieces.specs.Pieces.{Piece, words, node, header, heads, test_words, clause_words, case_words, stmts_pieces, kind_pieces, suite_pieces, arms_pieces, clauses_pieces, cases_pieces}
use Rattle.cov_pieces.specs.Views.{led_pieces, first_pieces}
use Rattle.cov_pieces.specs.Words.{Word, a_number, comparison_number, expr_words, pairs_words, links_words}
use Rattle.cov_pieces.proofs.Gathered.{words-both}
use Rattle.cov_pieces.proofs.Nodes.{plain-pairs, plain-links}

-- a key with its value
abbrev pub pair_words : Pair → List Word
pair_words p = a_number 1 ∷ (expr_words false (plain_expr (out-Pair p).key) ++ expr_words false (plain_expr (out-Pair p).value))

-- a comparison of a chain
abbrev pub link_words : Link → List Word
link_words l = a_number 1 ∷ a_number (comparison_number (out-Link l).op) ∷ expr_words false (plain_expr (out-Link l).right)

pub pairs-step : (p : Pair) (ps : List Pair) → words (pairs_words (plain_pairs (p ∷ ps))) ≡ words (pair_words p) ++ words (pairs_words (plain_pairs ps))
pairs-step p ps =
    ap (λ q. words (pairs_words q)) (plain-pairs p ps)
    ∙ ap (λ k. words (a_number 1 ∷ k)) (sym (append_assoc (expr_words false (plain_expr (out-Pair p).key)) (expr_words false (plain_expr (out-Pair p).value)) (pairs_words (plain_pairs ps))))
    ∙ words-both (pair_words p) (pairs_words (plain_pairs ps))

pub links-step : (l : Link) (ls : List Link) → words (links_words (plain_links (l ∷ ls))) ≡ words (link_words l) ++ words (links_words (plain_links ls))
links-step l ls = ap (λ q. words (links_words q)) (plain-links l ls) ∙ words-both (link_words l) (links_words (plain_links ls))

-- ---- statements

-- the line and the kind of a statement
abbrev pub head_words : Stmt → List Word
head_words s = a_number (out-Stmt s).first ∷ a_number (kind_number (plain_kind (out-Stmt s).kind)) ∷ []

pub heads-step : (s : Stmt) (ss : List Stmt) → words (heads (plain_stmts (s ∷ ss))) ≡ words (head_words s) ++ words (heads (plain_stmts ss))
heads-step s ss = ap (λ z. words (heads z)) (plain-stmts s ss)

led-first : (leads : Bool) (f l : ℕ) (k : Kind) (e : LineEnd) (ss : Stmts) → led_pieces leads (stmt f l k e ss) ≡ first_pieces leads f k ++ stmts_pieces ss
led-first false f l k e ss = refl
led-first true f l k e ss = by_case (is_docstring k) refl where
  by_case : (b : Bool) → is_docstring k ≡ b → led_pieces true (stmt f l k e ss) ≡ first_pieces true f k ++ stmts_pieces ss
  by_case true h = rw h refl
  by_case false h = rw h refl

pub led-step : (leads : Bool) (s : Stmt) (ss : List Stmt) → led_pieces leads (plain_stmts (s ∷ ss)) ≡ first_pieces leads (out-Stmt s).first (plain_kind (out-Stmt s).kind) ++ led_pieces false (plain_stmts ss)
led-step leads s ss = ap (led_pieces leads) (plain-stmts s ss) ∙ led-first leads (out-Stmt s).first (out-Stmt s).last (plain_kind (out-Stmt s).kind) (out-Stmt s).end (plain_stmts ss)

pub led-none : (leads : Bool) → led_pieces leads no_stmts ≡ []
led-none true = refl
led-none false = refl

-- the line of the header in front of a suite
abbrev line_of : Suite → ℕ
line_of (suite f l i b) = f

line-is : (s : SuiteNode) → line_of (plain_suite s) ≡ (out-Suite s).first
line-is s = ap line_of (plain-Suite s)

-- a test of an `if`
abbrev pub arm_pieces : Arm → List Piece
arm_pieces a = header (test_words (out-Suite (out-Arm a).body).first (plain_expr (out-Arm a).test)) (out-Suite (out-Arm a).body).first ++ suite_pieces (plain_suite (out-Arm a).body)

arm-parts : (e : Expr) (s : Suite) (r : Arms) → arms_pieces (arm e s r) ≡ (header (test_words (line_of s) e) (line_of s) ++ suite_pieces s) ++ arms_pieces r
arm-parts e (suite f l i b) r = sym (append_assoc (header (test_words f e) f) (node (heads b) (stmts_pieces b)) (arms_pieces r))

pub arms-step : (a : Arm) (rest : List Arm) → arms_pieces (plain_arms (a ∷ rest)) ≡ arm_pieces a ++ arms_pieces (plain_arms rest)
arms-step a rest =
    ap arms_pieces (plain-arms a rest) ∙ arm-parts (plain_expr (out-Arm a).test) (plain_suite (out-Arm a).body) (plain_arms rest)
    ∙ ap (λ m. (header (test_words m (plain_expr (out-Arm a).test)) m ++ suite_pieces (plain_suite (out-Arm a).body)) ++ arms_pieces (plain_arms rest)) (line-is (out-Arm a).body)

-- a clause of a `try`
abbrev pub clause_pieces : Clause → List Piece
clause_pieces c = header (clause_words (out-Suite (out-Clause c).body).first (option_map plain_expr (out-Clause c).kind) (out-Clause c).name) (out-Suite (out-Clause c).body).first ++ suite_pieces (plain_suite (out-Clause c).body)

clause-parts : (e : Option Expr) (x : Option Text) (s : Suite) (r : Clauses) → clauses_pieces (clause e x s r) ≡ (header (clause_words (line_of s) e x) (line_of s) ++ suite_pieces s) ++ clauses_pieces r
clause-parts e x (suite f l i b) r = sym (append_assoc (header (clause_words f e x) f) (node (heads b) (stmts_pieces b)) (clauses_pieces r))

pub clauses-step : (c : Clause) (rest : List Clause) → clauses_pieces (plain_clauses (c ∷ rest)) ≡ clause_pieces c ++ clauses_pieces (plain_clauses rest)
clauses-step c rest =
    ap clauses_pieces (plain-clauses c rest) ∙ clause-parts (option_map plain_expr (out-Clause c).kind) (out-Clause c).name (plain_suite (out-Clause c).body) (plain_clauses rest)
    ∙ ap (λ m. (header (clause_words m (option_map plain_expr (out-Clause c).kind) (out-Clause c).name) m ++ suite_pieces (plain_suite (out-Clause c).body)) ++ clauses_pieces (plain_clauses rest)) (line-is (out-Clause c).body)

-- a case of a `match`
abbrev pub case_pieces : Case → List Piece
case_pieces c = header (case_words (out-Suite (out-Case c).body).first (plain_pattern (out-Case c).pattern) (option_map plain_expr (out-Case c).guard)) (out-Suite (out-Case c).body).first ++ suite_pieces (plain_suite (out-Case c).body)

case-parts : (p : Pattern) (g : Option Expr) (s : Suite) (r : Cases) → cases_pieces (case p g s r) ≡ (header (case_words (line_of s) p g) (line_of s) ++ suite_pieces s) ++ cases_pieces r
case-parts p g (suite f l i b) r = sym (append_assoc (header (case_words f p g) f) (node (heads b) (stmts_pieces b)) (cases_pieces r))

pub cases-step : (c : Case) (rest : List Case) → cases_pieces (plain_cases (c ∷ rest)) ≡ case_pieces c ++ cases_pieces (plain_cases rest)
cases-step c rest =
    ap cases_pieces (plain-cases c rest) ∙ case-parts (plain_pattern (out-Case c).pattern) (option_map plain_expr (out-Case c).guard) (plain_suite (out-Case c).body) (plain_cases rest)
    ∙ ap (λ m. (header (case_words m (plain_pattern (out-Case c).pattern) (option_map plain_expr (out-Case c).guard)) m ++ suite_pieces (plain_suite (out-Case c).body)) ++ cases_pieces (plain_cases rest)) (line-is (out-Case c).body)

-- ---- the forms of statements

pub expr-kind : (k : KindNode) (e : Node) → k ≡ kind_.Expr e → plain_kind k ≡ expr (plain_expr e)
expr-kind k e is = ap plain_kind is ∙ plain-Expr e

pub assign-kind : (k : KindNode) (ts : Vec Node Global) (e : Node) (xs : List Node) → k ≡ kind_.Assign ts e → xs ≡ ts.items → plain_kind k ≡ assign (plain_exprs xs) (plain_expr e)
assign-kind k ts e xs is p = ap plain_kind is ∙ plain-Assign ts e ∙ ap (λ (z : List Node). assign (plain_exprs z) (plain_expr e)) (sym p)

pub augmented-kind : (k : KindNode) (x : Node) (op : BinOp) (e : Node) → k ≡ kind_.AugAssign x op e → plain_kind k ≡ aug_assign (plain_expr x) op (plain_expr e)
augmented-kind k x op e is = ap plain_kind is ∙ plain-AugAssign x op e

pub idle-kind : (l : ℕ) (k : KindNode) → (k ≡ kind_.Pass) ⊎ ((k ≡ kind_.Break) ⊎ (k ≡ kind_.Continue)) → kind_pieces l (plain_kind k) ≡ header [] l
idle-kind l k (inl is) = ap (λ z. kind_pieces l (plain_kind z)) is ∙ ap (kind_pieces l) plain-Pass
idle-kind l k (inr (inl is)) = ap (λ z. kind_pieces l (plain_kind z)) is ∙ ap (kind_pieces l) plain-Break
idle-kind l k (inr (inr is)) = ap (λ z. kind_pieces l (plain_kind z)) is ∙ ap (kind_pieces l) plain-Continue

pub return-kind : (k : KindNode) (e : Option Node) → k ≡ kind_.Return e → plain_kind k ≡ return (option_map plain_expr e)
return-kind k e is = ap plain_kind is ∙ plain-Return e

pub raise-kind : (k : KindNode) (e : Option Node) → k ≡ kind_.Raise e → plain_kind k ≡ raise (option_map plain_expr e)
raise-kind k e is = ap plain_kind is ∙ plain-Raise e

pub assert-kind : (k : KindNode) (e : Node) (w : Option Node) → k ≡ kind_.Assert e w → plain_kind k ≡ assert (plain_expr e) (option_map plain_expr w)
assert-kind k e w is = ap plain_kind is ∙ plain-Assert e w

pub global-kind : (k : KindNode) (xs : Vec Text Global) (ys : List Text) → k ≡ kind_.Global xs → ys ≡ xs.items → plain_kind k ≡ global ys
global-kind k xs ys is p = ap plain_kind is ∙ plain-Global xs ∙ ap (λ (z : List Text). global z) (sym p)

pub import-kind : (k : KindNode) (xs : Vec AliasNode Global) (ys : List AliasNode) → k ≡ kind_.Import xs → ys ≡ xs.items → plain_kind k ≡ import (plain_aliases ys)
import-kind k xs ys is p = ap plain_kind is ∙ plain-Import xs ∙ ap (λ (z : List AliasNode). import (plain_aliases z)) (sym p)

pub from-kind : (k : KindNode) (m : Text) (xs : Vec AliasNode Global) (ys : List AliasNode) → k ≡ kind_.From m xs → ys ≡ xs.items → plain_kind k ≡ from m (plain_aliases ys)
from-kind k m xs ys is p = ap plain_kind is ∙ plain-From m xs ∙ ap (λ (z : List AliasNode). from m (plain_aliases z)) (sym p)

pub if-kind : (k : KindNode) (us : Vec Arm Global) (o : Option SuiteNode) (xs : List Arm) → k ≡ kind_.If us o → xs ≡ us.items → plain_kind k ≡ if' (plain_arms xs) (plain_opt_suite o)
if-kind k us o xs is p = ap plain_kind is ∙ plain-If us o ∙ ap (λ (z : List Arm). if' (plain_arms z) (plain_opt_suite o)) (sym p)

pub while-kind : (k : KindNode) (e : Node) (b : SuiteNode) (o : Option SuiteNode) → k ≡ kind_.While e b o → plain_kind k ≡ while (plain_expr e) (plain_suite b) (plain_opt_suite o)
while-kind k e b o is = ap plain_kind is ∙ plain-While e b o

pub for-kind : (k : KindNode) (x e : Node) (b : SuiteNode) (o : Option SuiteNode) → k ≡ kind_.For x e b o → plain_kind k ≡ for (plain_expr x) (plain_expr e) (plain_suite b) (plain_opt_suite o)
for-kind k x e b o is = ap plain_kind is ∙ plain-For x e b o

pub try-kind : (k : KindNode) (b : SuiteNode) (cs : Vec Clause Global) (o f : Option SuiteNode) (xs : List Clause) → k ≡ kind_.Try b cs o f → xs ≡ cs.items → plain_kind k ≡ try (plain_suite b) (plain_clauses xs) (plain_opt_suite o) (plain_opt_suite f)
try-kind k b cs o f xs is p = ap plain_kind is ∙ plain-Try b cs o f ∙ ap (λ (z : List Clause). try (plain_suite b) (plain_clauses z) (plain_opt_suite o) (plain_opt_suite f)) (sym p)

pub def-kind : (k : KindNode) (x : Text) (ps : Vec Text Global) (ds : Vec Node Global) (c : Bool) (b : SuiteNode) (ys : List Text) (xs : List Node) (ss : List Stmt) → k ≡ kind_.Def x ps ds c b → xs ≡ ds.items → ys ≡ ps.items → ss ≡ (out-Suite b).body.items
    → plain_kind k ≡ def x ys (plain_exprs xs) c (suite (out-Suite b).first (out-Suite b).last (out-Suite b).inline (plain_stmts ss))
def-kind k x ps ds c b ys xs ss is p q r =
    ap plain_kind is ∙ plain-Def x ps ds c b ∙ ap (λ (z : List Node). def x ps.items (plain_exprs z) c (plain_suite b)) (sym p)
    ∙ ap (λ (z : List Text). def x z (plain_exprs xs) c (plain_suite b)) (sym q) ∙ ap (def x ys (plain_exprs xs) c) (plain-Suite b)
    ∙ ap (λ (z : List Stmt). def x ys (plain_exprs xs) c (suite (out-Suite b).first (out-Suite b).last (out-Suite b).inline (plain_stmts z))) (sym r)

pub match-kind : (k : KindNode) (e : Node) (a : ℕ) (cs : Vec Case Global) (xs : List Case) → k ≡ kind_.Match e a cs → xs ≡ cs.items → plain_kind k ≡ match (plain_expr e) a (plain_cases xs)
match-kind k e a cs xs is p = ap plain_kind is ∙ plain-Match e a cs ∙ ap (λ (z : List Case). match (plain_expr e) a (plain_cases z)) (sym p)
