-- The lines of statements, part by part.
use Rattle.std.proofs.Common.{◌≡◌, ℕ, ◌+◌, ◌<◌, List, [], ◌∷◌, ◌++◌, Bool, true, false, if◌then◌else◌, Result, OnOk, Option, Some, None, Vec, Global, length, drop, get_or, refl, ap, sym, ◌∙◌, append_assoc}
use Rattle.py_syntax.specs.declared.expr.Expr.{Expr}
use Rattle.py_syntax.specs.declared.stmt.Case.{Case}
use Rattle.py_syntax.specs.declared.stmt.Clause.{Clause}
use Rattle.py_syntax.specs.declared.stmt.Stmt.{Stmt, out-Stmt}
use Rattle.py_syntax.specs.declared.stmt.Stmt as stmt_
use Rattle.py_syntax.specs.declared.stmt.StmtKind as kind_
use Rattle.py_syntax.specs.declared.stmt.StmtKind.{StmtKind}
use Rattle.py_syntax.specs.declared.stmt.Suite.{Suite}
use Rattle.py_syntax.specs.Functions.{is_docstring}
use Rattle.py_syntax.specs.Marks.{stmts_marks, kind_marks, suite_marks, opt_marks, clauses_marks, cases_marks}
use Rattle.py_syntax.specs.declared.stmt.LineEnd.{LineEnd}
use Rattle.py_syntax.specs.Tree.{Stmts, StmtKind as Kind, no_stmts, stmt, try, match}
use Rattle.cov_predict.specs.Leading.{first_marks, lines_of}
use Rattle.py_syntax.specs.View.{plain_expr, plain_stmts, plain_kind, plain_suite, plain_opt_suite, plain_clauses, plain_cases}
use Rattle.cov_predict.proofs.Gathering.{the_drop}

pub plain-Stmts : (s : Stmt) (ss : List Stmt) → plain_stmts (s ∷ ss) ≡ stmt (out-Stmt s).first (out-Stmt s).last (plain_kind (out-Stmt s).kind) (out-Stmt s).end (plain_stmts ss)
plain-Stmts s ss = search stmt_.the_lemmas

-- the first statement, and the others
first-lines : (leads : Bool) (f l : ℕ) (k : Kind) (e : LineEnd) (ss : Stmts) → lines_of leads (stmt f l k e ss) ≡ first_marks leads f k ++ stmts_marks ss
first-lines true f l k e ss = elim (is_docstring k) as (λ b. (if b then stmts_marks ss else (kind_marks f k ++ stmts_marks ss)) ≡ (if b then [] else kind_marks f k) ++ stmts_marks ss) [ true ↦ refl | false ↦ refl ]
first-lines false f l k e ss = refl

pub plain-Match : (e : Expr) (l : ℕ) (cs : Vec Case Global) → plain_kind (kind_.Match e l cs) ≡ match (plain_expr e) l (plain_cases cs.items)
plain-Match e l cs = search kind_.the_lemmas

pub plain-Try : (b : Suite) (cs : Vec Clause Global) (o f : Option Suite) → plain_kind (kind_.Try b cs o f) ≡ try (plain_suite b) (plain_clauses cs.items) (plain_opt_suite o) (plain_opt_suite f)
plain-Try b cs None None = search kind_.the_lemmas
plain-Try b cs None (Some f) = search kind_.the_lemmas
plain-Try b cs (Some o) None = search kind_.the_lemmas
plain-Try b cs (Some o) (Some f) = search kind_.the_lemmas

-- the marks of a `match`, and of a `try`
pub match-marks : (line : ℕ) (k : StmtKind) (e : Expr) (l : ℕ) (cs : Vec Case Global) (slice : List Case) → k ≡ kind_.Match e l cs → slice ≡ cs.items → line ∷ cases_marks (plain_cases slice) ≡ kind_marks line (plain_kind k)
match-marks line k e l cs slice is same = sym (ap (λ q. kind_marks line (plain_kind q)) is ∙ ap (kind_marks line) (plain-Match e l cs) ∙ ap (λ xs. line ∷ cases_marks (plain_cases xs)) (sym same))

pub try-marks : (line : ℕ) (k : StmtKind) (b : Suite) (cs : Vec Clause Global) (slice : List Clause) (o f : Option Suite) → k ≡ kind_.Try b cs o f → slice ≡ cs.items
    → line ∷ (suite_marks (plain_suite b) ++ (clauses_marks (plain_clauses slice) ++ (opt_marks (plain_opt_suite o) ++ opt_marks (plain_opt_suite f)))) ≡ kind_marks line (plain_kind k)
try-marks line k b cs slice o f is same =
    sym (ap (λ q. kind_marks line (plain_kind q)) is ∙ ap (kind_marks line) (plain-Try b cs o f)
    ∙ ap (λ xs. line ∷ (suite_marks (plain_suite b) ++ (clauses_marks (plain_clauses xs) ++ (opt_marks (plain_opt_suite o) ++ opt_marks (plain_opt_suite f))))) (sym same))

-- ---- statements, of which the first may be a docstring

pub turn : (leads : Bool) (now next was : List ℕ) (xs : List Stmt) (i : ℕ) (s : Stmt) → i < length xs → s ≡ get_or xs i s
    → next ≡ now ++ first_marks leads (out-Stmt s).first (plain_kind (out-Stmt s).kind)
    → now ++ lines_of leads (plain_stmts (drop i xs)) ≡ was → next ++ lines_of false (plain_stmts (drop (i + 1) xs)) ≡ was
turn leads now next was xs i s lt is e h =
    ap (λ k. k ++ stmts_marks (plain_stmts (drop (i + 1) xs))) e
    ∙ append_assoc now (first_marks leads (out-Stmt s).first (plain_kind (out-Stmt s).kind)) (stmts_marks (plain_stmts (drop (i + 1) xs)))
    ∙ ap (λ k. now ++ k) (sym (first-lines leads (out-Stmt s).first (out-Stmt s).last (plain_kind (out-Stmt s).kind) (out-Stmt s).end (plain_stmts (drop (i + 1) xs))) ∙ sym (ap (lines_of leads) (plain-Stmts s (drop (i + 1) xs))) ∙ ap (λ ss. lines_of leads (plain_stmts ss)) (sym (the_drop xs i s lt is)))
    ∙ h

pub none_left : (leads : Bool) → lines_of leads no_stmts ≡ []
none_left true = refl
none_left false = refl
