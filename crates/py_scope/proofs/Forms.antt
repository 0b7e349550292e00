-- The plain views of statements and their parts, form by form.
use Rattle.std.proofs.Common.{◌≡◌, ℕ, List, ◌∷◌, Bool, Option, Some, None, Vec, Global}
use Rattle.std.specs.Option.{option_map}
use Rattle.py_operator.specs.declared.operator.BinOp.{BinOp}
use Rattle.py_syntax.specs.declared.expr.Expr.{Expr as Node}
use Rattle.py_syntax.specs.declared.stmt.Alias.{Alias}
use Rattle.py_syntax.specs.declared.stmt.Arm.{Arm, out-Arm}
use Rattle.py_syntax.specs.declared.stmt.Arm as arms_
use Rattle.py_syntax.specs.declared.stmt.Case.{Case, out-Case}
use Rattle.py_syntax.specs.declared.stmt.Case as cases_
use Rattle.py_syntax.specs.declared.stmt.Clause.{Clause, out-Clause}
use Rattle.py_syntax.specs.declared.stmt.Clause as clauses_
use Rattle.py_syntax.specs.declared.stmt.Stmt.{Stmt, out-Stmt}
use Rattle.py_syntax.specs.declared.stmt.Stmt as stmts_
use Rattle.py_syntax.specs.declared.stmt.StmtKind as kind_
use Rattle.py_syntax.specs.declared.stmt.Suite.{Suite, out-Suite}
use Rattle.py_syntax.specs.declared.stmt.Suite as suites
use Rattle.py_syntax.specs.Tree.{Text, stmt, suite, arm, clause, case, expr, assign, aug_assign, pass, break, continue, return, raise, assert, global, import, from, if', while, for, try, def, match}
use Rattle.py_syntax.specs.View.{plain_expr, plain_exprs, plain_pattern, plain_aliases, plain_stmts, plain_kind, plain_suite, plain_opt_suite, plain_arms, plain_clauses, plain_cases}

pub plain-Suite : (s : Suite) → plain_suite s ≡ suite (out-Suite s).first (out-Suite s).last (out-Suite s).inline (plain_stmts (out-Suite s).body.items)
plain-Suite s = search suites.the_lemmas

pub plain-stmts : (s : Stmt) (ss : List Stmt) → plain_stmts (s ∷ ss) ≡ stmt (out-Stmt s).first (out-Stmt s).last (plain_kind (out-Stmt s).kind) (out-Stmt s).end (plain_stmts ss)
plain-stmts s ss = search stmts_.the_lemmas

pub plain-arms : (a : Arm) (rest : List Arm) → plain_arms (a ∷ rest) ≡ arm (plain_expr (out-Arm a).test) (plain_suite (out-Arm a).body) (plain_arms rest)
plain-arms a rest = search arms_.the_lemmas

pub plain-clauses : (c : Clause) (cs : List Clause) → plain_clauses (c ∷ cs) ≡ clause (option_map plain_expr (out-Clause c).kind) (out-Clause c).name (plain_suite (out-Clause c).body) (plain_clauses cs)
plain-clauses c cs = search clauses_.the_lemmas

pub plain-cases : (c : Case) (cs : List Case) → plain_cases (c ∷ cs) ≡ case (plain_pattern (out-Case c).pattern) (option_map plain_expr (out-Case c).guard) (plain_suite (out-Case c).body) (plain_cases cs)
plain-cases c cs = search cases_.the_lemmas

-- ---- statements

pub plain-Expr : (e : Node) → plain_kind (kind_.Expr e) ≡ expr (plain_expr e)
plain-Expr e = search kind_.the_lemmas

pub plain-Assign : (ts : Vec Node Global) (e : Node) → plain_kind (kind_.Assign ts e) ≡ assign (plain_exprs ts.items) (plain_expr e)
plain-Assign ts e = search kind_.the_lemmas

pub plain-AugAssign : (x : Node) (op : BinOp) (e : Node) → plain_kind (kind_.AugAssign x op e) ≡ aug_assign (plain_expr x) op (plain_expr e)
plain-AugAssign x op e = search kind_.the_lemmas

pub plain-Pass : plain_kind kind_.Pass ≡ pass
plain-Pass = search kind_.the_lemmas

pub plain-Break : plain_kind kind_.Break ≡ break
plain-Break = search kind_.the_lemmas

pub plain-Continue : plain_kind kind_.Continue ≡ continue
plain-Continue = search kind_.the_lemmas

pub plain-Return : (e : Option Node) → plain_kind (kind_.Return e) ≡ return (option_map plain_expr e)
plain-Return e = search kind_.the_lemmas

pub plain-Raise : (e : Option Node) → plain_kind (kind_.Raise e) ≡ raise (option_map plain_expr e)
plain-Raise e = search kind_.the_lemmas

pub plain-Assert : (e : Node) (w : Option Node) → plain_kind (kind_.Assert e w) ≡ assert (plain_expr e) (option_map plain_expr w)
plain-Assert e w = search kind_.the_lemmas

pub plain-Global : (xs : Vec Text Global) → plain_kind (kind_.Global xs) ≡ global xs.items
plain-Global xs = search kind_.the_lemmas

pub plain-Import : (xs : Vec Alias Global) → plain_kind (kind_.Import xs) ≡ import (plain_aliases xs.items)
plain-Import xs = search kind_.the_lemmas

pub plain-From : (m : Text) (xs : Vec Alias Global) → plain_kind (kind_.From m xs) ≡ from m (plain_aliases xs.items)
plain-From m xs = search kind_.the_lemmas

pub plain-If : (rest : Vec Arm Global) (o : Option Suite) → plain_kind (kind_.If rest o) ≡ if' (plain_arms rest.items) (plain_opt_suite o)
plain-If rest None = search kind_.the_lemmas
plain-If rest (Some o) = search kind_.the_lemmas

pub plain-While : (e : Node) (b : Suite) (o : Option Suite) → plain_kind (kind_.While e b o) ≡ while (plain_expr e) (plain_suite b) (plain_opt_suite o)
plain-While e b None = search kind_.the_lemmas
plain-While e b (Some o) = search kind_.the_lemmas

pub plain-For : (x : Node) (e : Node) (b : Suite) (o : Option Suite) → plain_kind (kind_.For x e b o) ≡ for (plain_expr x) (plain_expr e) (plain_suite b) (plain_opt_suite o)
plain-For x e b None = search kind_.the_lemmas
plain-For x e b (Some o) = search kind_.the_lemmas

pub plain-Try : (b : Suite) (cs : Vec Clause Global) (o : Option Suite) (f : Option Suite) → plain_kind (kind_.Try b cs o f) ≡ try (plain_suite b) (plain_clauses cs.items) (plain_opt_suite o) (plain_opt_suite f)
plain-Try b cs None None = search kind_.the_lemmas
plain-Try b cs None (Some f) = search kind_.the_lemmas
plain-Try b cs (Some o) None = search kind_.the_lemmas
plain-Try b cs (Some o) (Some f) = search kind_.the_lemmas

pub plain-Def : (x : Text) (ps : Vec Text Global) (ds : Vec Node Global) (c : Bool) (b : Suite) → plain_kind (kind_.Def x ps ds c b) ≡ def x ps.items (plain_exprs ds.items) c (plain_suite b)
plain-Def x ps ds c b = search kind_.the_lemmas

pub plain-Match : (e : Node) (header : ℕ) (cs : Vec Case Global) → plain_kind (kind_.Match e header cs) ≡ match (plain_expr e) header (plain_cases cs.items)
plain-Match e header cs = search kind_.the_lemmas
