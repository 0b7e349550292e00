-- What the code holds, with one more.
use Rattle.std.proofs.Common.{◌≡◌, ℕ, suc, ◌-◌, Bool, true, false, not, ◌&&◌, List, [], ◌∷◌, ◌++◌, length, reverse, slice_get, Some, option_map, Vec, ◌⊎◌, inl, inr, refl, sym, ap, ◌∙◌, arith}
use Rattle.std.proofs.lemmas.Bool.{ne_eqb}
use Rattle.std.proofs.lemmas.List.{reverse-append, length-append, length-reverse}
use Rattle.std.specs.Global.{Global}
use Rattle.std.specs.Prelude.{◌==◌}
use Rattle.py_syntax.specs.declared.expr.Expr.{Expr as Node}
use Rattle.py_syntax.specs.declared.stmt.LineEnd.{LineEnd}
use Rattle.py_syntax.specs.declared.stmt.Stmt.{Stmt}
use Rattle.py_syntax.specs.declared.stmt.Arm.{Arm, out-Arm}
use Rattle.py_syntax.specs.declared.stmt.Arm as arms
use Rattle.py_syntax.specs.declared.stmt.Clause.{Clause, out-Clause}
use Rattle.py_syntax.specs.declared.stmt.Clause as clauses
use Rattle.py_syntax.specs.declared.stmt.Case.{Case, out-Case}
use Rattle.py_syntax.specs.declared.stmt.Case as cases
use Rattle.py_syntax.specs.declared.stmt.StmtKind as kinds
use Rattle.py_syntax.specs.declared.stmt.Suite as suites
use Rattle.py_syntax.specs.declared.stmt.Suite.{roll-Suite}
use Rattle.py_syntax.specs.declared.stmt.Alias.{Alias}
use Rattle.py_syntax.specs.Tree as tree_
use Rattle.py_syntax.specs.Tree.{Stmts, stmt, suite, StmtKind, exprs, Arms, arm, Clauses, clause, Cases, case}
use Rattle.py_syntax.specs.View.{plain_expr, plain_exprs, plain_pattern, plain_kind, plain_suite, plain_stmts, plain_arms, plain_clauses, plain_cases, plain_alias, plain_aliases}
use Rattle.py_grammar.specs.Machine.{snoc}
use Rattle.py_statements.specs.declared.suite_stack.Open.{Open}
use Rattle.py_statements.specs.Open.{snoc_stmt, snoc_arm, snoc_clause, snoc_case, SuiteStack, inside, add}
use Rattle.py_statements.specs.ViewSuiteOf.{view_suite_of}
use Rattle.py_statements.specs.Levels.{open_count}
use Rattle.py_statements.specs.ViewStates.{suite_stack, is_closable, is_top}

pub plain-arms : (a : Arm) (rest : List Arm) → plain_arms (a ∷ rest) ≡ arm (plain_expr (out-Arm a).test) (plain_suite (out-Arm a).body) (plain_arms rest)
plain-arms a rest = search arms.the_lemmas

pub plain-clauses : (c : Clause) (rest : List Clause) → plain_clauses (c ∷ rest) ≡ clause (option_map plain_expr (out-Clause c).kind) (out-Clause c).name (plain_suite (out-Clause c).body) (plain_clauses rest)
plain-clauses c rest = search clauses.the_lemmas

pub plain-cases : (c : Case) (rest : List Case) → plain_cases (c ∷ rest) ≡ case (plain_pattern (out-Case c).pattern) (option_map plain_expr (out-Case c).guard) (plain_suite (out-Case c).body) (plain_cases rest)
plain-cases c rest = search cases.the_lemmas

pub plain-stmts : (s : Stmt) (rest : List Stmt) → plain_stmts (s ∷ rest) ≡ stmt s.first s.last (plain_kind s.kind) s.end (plain_stmts rest)
plain-stmts s rest = search kinds.the_lemmas

pub plain-suite : (first last : ℕ) (inline : Bool) (body : Vec Stmt Global) → plain_suite (roll-Suite record { first = first; last = last; inline = inline; body = body }) ≡ suite first last inline (plain_stmts body.items)
plain-suite first last inline body = search suites.the_lemmas

pub arms_snoc : (xs : List Arm) (a : Arm) → plain_arms (xs ++ a ∷ []) ≡ snoc_arm (plain_arms xs) (plain_expr (out-Arm a).test) (plain_suite (out-Arm a).body)
arms_snoc [] a = plain-arms a []
arms_snoc (x ∷ xs) a = plain-arms x (xs ++ a ∷ []) ∙ ap (arm (plain_expr (out-Arm x).test) (plain_suite (out-Arm x).body)) (arms_snoc xs a) ∙ ap (λ (as' : Arms). snoc_arm as' (plain_expr (out-Arm a).test) (plain_suite (out-Arm a).body)) (sym (plain-arms x xs))

pub clauses_snoc : (xs : List Clause) (c : Clause) → plain_clauses (xs ++ c ∷ []) ≡ snoc_clause (plain_clauses xs) (option_map plain_expr (out-Clause c).kind) (out-Clause c).name (plain_suite (out-Clause c).body)
clauses_snoc [] c = plain-clauses c []
clauses_snoc (x ∷ xs) c = plain-clauses x (xs ++ c ∷ []) ∙ ap (clause (option_map plain_expr (out-Clause x).kind) (out-Clause x).name (plain_suite (out-Clause x).body)) (clauses_snoc xs c) ∙ ap (λ (cs : Clauses). snoc_clause cs (option_map plain_expr (out-Clause c).kind) (out-Clause c).name (plain_suite (out-Clause c).body)) (sym (plain-clauses x xs))

pub cases_snoc : (xs : List Case) (c : Case) → plain_cases (xs ++ c ∷ []) ≡ snoc_case (plain_cases xs) (plain_pattern (out-Case c).pattern) (option_map plain_expr (out-Case c).guard) (plain_suite (out-Case c).body)
cases_snoc [] c = plain-cases c []
cases_snoc (x ∷ xs) c = plain-cases x (xs ++ c ∷ []) ∙ ap (case (plain_pattern (out-Case x).pattern) (option_map plain_expr (out-Case x).guard) (plain_suite (out-Case x).body)) (cases_snoc xs c) ∙ ap (λ (cs : Cases). snoc_case cs (plain_pattern (out-Case c).pattern) (option_map plain_expr (out-Case c).guard) (plain_suite (out-Case c).body)) (sym (plain-cases x xs))

pub stmts_snoc : (xs : List Stmt) (s : Stmt) → plain_stmts (xs ++ s ∷ []) ≡ snoc_stmt (plain_stmts xs) s.first s.last (plain_kind s.kind) s.end
stmts_snoc [] s = plain-stmts s []
stmts_snoc (x ∷ xs) s = plain-stmts x (xs ++ s ∷ []) ∙ ap (stmt x.first x.last (plain_kind x.kind) x.end) (stmts_snoc xs s) ∙ ap (λ (ss : Stmts). snoc_stmt ss s.first s.last (plain_kind s.kind) s.end) (sym (plain-stmts x xs))

pub exprs_snoc : (xs : List Node) (e : Node) → plain_exprs (xs ++ e ∷ []) ≡ snoc (plain_exprs xs) (plain_expr e)
exprs_snoc [] e = refl
exprs_snoc (x ∷ xs) e = ap (exprs (plain_expr x)) (exprs_snoc xs e)

pub aliases_snoc : (xs : List Alias) (a : Alias) → plain_aliases (xs ++ a ∷ []) ≡ plain_aliases xs ++ plain_alias a ∷ []
aliases_snoc [] a = refl
aliases_snoc (x ∷ xs) a = ap (λ (ys : List tree_.Alias). plain_alias x ∷ ys) (aliases_snoc xs a)

-- ---- open suites

pub block_added : (ss : Stmts) (os : List Open) (first last : ℕ) (k : StmtKind) (e : LineEnd) → suite_stack (snoc_stmt ss first last k e) os ≡ add (suite_stack ss os) first last k e
block_added ss [] first last k e = refl
block_added ss (o ∷ os) first last k e = refl

pub reverse_snoc : (os : List Open) (o : Open) → reverse (os ++ o ∷ []) ≡ o ∷ reverse os
reverse_snoc os o = reverse-append os (o ∷ [])

-- ---- the innermost suite

-- a list is empty, or others with one after them
abbrev Ends : List Open → Type 0
Ends os = (os ≡ []) ⊎ ((init : List Open) × (o : Open) × (os ≡ init ++ o ∷ []))

ends : (os : List Open) → Ends os
ends [] = inl refl
ends (o ∷ os) = elim (ends os) [ inl h ↦ inr ([], o, ap (λ (xs : List Open). o ∷ xs) h) | inr r ↦ inr (o ∷ r.0, r.1, ap (λ (xs : List Open). o ∷ xs) r.2) ]

get_last : (init : List Open) (o : Open) → slice_get (init ++ o ∷ []) (length init) ≡ Some o
get_last [] o = refl
get_last (p ∷ init) o = get_last init o

last_of_snoc : (init : List Open) (o : Open) → slice_get (init ++ o ∷ []) (length (init ++ o ∷ []) - 1) ≡ Some o
last_of_snoc init o =
    let at : length (init ++ o ∷ []) - 1 ≡ length init = omega (arith, length-append init (o ∷ [])) in
    ap (slice_get (init ++ o ∷ [])) at ∙ get_last init o

-- the blocks with the last one innermost
pub block_last : (ss : Stmts) (os : List Open) (o : Open) → slice_get os (length os - 1) ≡ Some o → (b : SuiteStack) × (suite_stack ss (reverse os) ≡ inside ss o.inline o.span.first o.span.last o.span.begun (view_suite_of o.suite_of.value) b)
block_last ss os o h = elim (ends os) [ inl none ↦ absurd (nothing none) | inr r ↦ (suite_stack (plain_stmts o.outer.items) (reverse r.0), ap (λ (xs : List Open). suite_stack ss (reverse xs)) r.2 ∙ ap (suite_stack ss) (reverse_snoc r.0 r.1 ∙ ap (λ (q : Open). q ∷ reverse r.0) (same r.0 r.1 r.2))) ]
  where
    nothing : os ≡ [] → ⊥
    nothing none = let both = sym (ap (λ (xs : List Open). slice_get xs (length xs - 1)) none) ∙ h in cc

    same : (init : List Open) (p : Open) → os ≡ init ++ p ∷ [] → p ≡ o
    same init p is = let both = sym (last_of_snoc init p) ∙ sym (ap (λ (xs : List Open). slice_get xs (length xs - 1)) is) ∙ h in cc

pub block_ends : (body : List Stmt) (os : List Open) (o : Open) → slice_get os (length os - 1) ≡ Some o → (not o.inline && not (length body == 0)) ≡ is_closable (suite_stack (plain_stmts body) (reverse os))
block_ends body os o h = let b = block_last (plain_stmts body) os o h in go body o.inline b.0 ∙ sym (ap is_closable b.1)
  where
    go : (body : List Stmt) (i : Bool) (b : SuiteStack) → (not i && not (length body == 0)) ≡ is_closable (inside (plain_stmts body) i o.span.first o.span.last o.span.begun (view_suite_of o.suite_of.value) b)
    go [] true b = refl
    go [] false b = refl
    go (s ∷ rest) true b = sym (ap (λ (ss : Stmts). is_closable (inside ss true o.span.first o.span.last o.span.begun (view_suite_of o.suite_of.value) b)) (plain-stmts s rest))
    go (s ∷ rest) false b = ap not (ne_eqb (suc (length rest)) 0 (λ e. absurd (omega arith))) ∙ sym (ap (λ (ss : Stmts). is_closable (inside ss false o.span.first o.span.last o.span.begun (view_suite_of o.suite_of.value) b)) (plain-stmts s rest))

pub block_top : (ss : Stmts) (os : List Open) → (length os == 0) ≡ is_top (suite_stack ss (reverse os))
block_top ss os = elim (ends os) [ inl none ↦ ap (λ (xs : List Open). length xs == 0) none ∙ sym (ap (λ (xs : List Open). is_top (suite_stack ss (reverse xs))) none) | inr r ↦ long r.0 r.1 r.2 ]
  where
    long : (init : List Open) (o : Open) → os ≡ init ++ o ∷ [] → (length os == 0) ≡ is_top (suite_stack ss (reverse os))
    long init o is =
        let some : length os ≡ suc (length init) = omega (arith, ap length is, length-append init (o ∷ [])) in
        ne_eqb (length os) 0 (λ e. absurd (omega arith)) ∙ sym (ap is_top (ap (λ (xs : List Open). suite_stack ss (reverse xs)) is ∙ ap (suite_stack ss) (reverse_snoc init o)))

pub open_count_is : (ss : Stmts) (os : List Open) → open_count (suite_stack ss (reverse os)) ≡ length os
open_count_is ss os = count ss (reverse os) ∙ length-reverse os
  where
    count : (ss : Stmts) (os : List Open) → open_count (suite_stack ss os) ≡ length os
    count ss [] = refl
    count ss (o ∷ os) = ap suc (count (plain_stmts o.outer.items) os)
