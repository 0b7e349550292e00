-- The walk, form by form: what the code gathers is what the walk gathers.
use Rattle.std.proofs.Common.{◌≡◌, ℕ, ◌+◌, ◌<◌, List, ◌∷◌, ◌++◌, Bool, false, Result, OnOk, Option, Some, None, Vec, Global, length, drop, get_or, refl, ap, sym, subst, ◌∙◌, append_assoc}
use Rattle.py_syntax.specs.declared.expr.Expr.{Expr}
use Rattle.py_syntax.specs.declared.stmt.Case.{Case}
use Rattle.py_syntax.specs.declared.stmt.Clause.{Clause}
use Rattle.py_syntax.specs.declared.stmt.Stmt.{Stmt, out-Stmt}
use Rattle.py_syntax.specs.declared.stmt.Stmt as stmt_
use Rattle.py_syntax.specs.declared.stmt.StmtKind as kind_
use Rattle.py_syntax.specs.declared.stmt.StmtKind.{StmtKind}
use Rattle.py_syntax.specs.declared.stmt.Suite.{Suite}
use Rattle.py_syntax.specs.Tree.{stmt, try, match}
use Rattle.py_syntax.specs.View.{plain_expr, plain_stmts, plain_kind, plain_suite, plain_opt_suite, plain_clauses, plain_cases}
use Rattle.cov_predict.proofs.Gathering.{goes_on, the_drop}
use Rattle.cov_exclude.specs.Touched.{mark_if}
use Rattle.cov_exclude.specs.Walk.{Rule, is_gathered, is_whole, stmts_walk, leading_walk, kind_walk, headed_walk, opt_walk, clauses_walk, cases_walk}

plain-Stmts : (s : Stmt) (ss : List Stmt) → plain_stmts (s ∷ ss) ≡ stmt (out-Stmt s).first (out-Stmt s).last (plain_kind (out-Stmt s).kind) (out-Stmt s).end (plain_stmts ss)
plain-Stmts s ss = search stmt_.the_lemmas

plain-Match : (e : Expr) (l : ℕ) (cs : Vec Case Global) → plain_kind (kind_.Match e l cs) ≡ match (plain_expr e) l (plain_cases cs.items)
plain-Match e l cs = search kind_.the_lemmas

plain-Try : (b : Suite) (cs : Vec Clause Global) (o f : Option Suite) → plain_kind (kind_.Try b cs o f) ≡ try (plain_suite b) (plain_clauses cs.items) (plain_opt_suite o) (plain_opt_suite f)
plain-Try b cs None None = search kind_.the_lemmas
plain-Try b cs None (Some f) = search kind_.the_lemmas
plain-Try b cs (Some o) None = search kind_.the_lemmas
plain-Try b cs (Some o) (Some f) = search kind_.the_lemmas

module _ (r : Rule) (whole : Bool) (line last : ℕ) (k : StmtKind) where
  -- what is gathered of a `match`, and of a `try`
  of-match : (e : Expr) (l : ℕ) (cs : Vec Case Global) (slice : List Case) → k ≡ kind_.Match e l cs → slice ≡ cs.items
      → kind_walk r whole line last (plain_kind k) ≡ mark_if (is_gathered r whole line l) line ++ cases_walk r (is_whole r whole line l) (plain_cases slice)
  of-match e l cs slice is same =
      ap (λ q. kind_walk r whole line last (plain_kind q)) is ∙ ap (kind_walk r whole line last) (plain-Match e l cs)
      ∙ ap (λ xs. mark_if (is_gathered r whole line l) line ++ cases_walk r (is_whole r whole line l) (plain_cases xs)) (sym same)

  of-try : (b : Suite) (cs : Vec Clause Global) (slice : List Clause) (o f : Option Suite) → k ≡ kind_.Try b cs o f → slice ≡ cs.items
      → kind_walk r whole line last (plain_kind k) ≡ headed_walk r whole false line (plain_suite b) ++ (clauses_walk r whole (plain_clauses slice) ++ (opt_walk r whole (plain_opt_suite o) ++ opt_walk r whole (plain_opt_suite f)))
  of-try b cs slice o f is same =
      ap (λ q. kind_walk r whole line last (plain_kind q)) is ∙ ap (kind_walk r whole line last) (plain-Try b cs o f)
      ∙ ap (λ xs. headed_walk r whole false line (plain_suite b) ++ (clauses_walk r whole (plain_clauses xs) ++ (opt_walk r whole (plain_opt_suite o) ++ opt_walk r whole (plain_opt_suite f)))) (sym same)

  pub matched : {E : Type 0} (result : Result (Unit {0}) E) (e : Expr) (l : ℕ) (cs : Vec Case Global) (slice : List Case) (before after : List ℕ)
      → k ≡ kind_.Match e l cs → slice ≡ cs.items
      → OnOk result (after ≡ before ++ (mark_if (is_gathered r whole line l) line ++ cases_walk r (is_whole r whole line l) (plain_cases slice)))
      → OnOk result (after ≡ before ++ kind_walk r whole line last (plain_kind k))
  matched result e l cs slice before after is same h = subst (λ w. OnOk result (after ≡ before ++ w)) (sym (of-match e l cs slice is same)) h

  pub tried : {E : Type 0} (result : Result (Unit {0}) E) (b : Suite) (cs : Vec Clause Global) (slice : List Clause) (o f : Option Suite) (before body clauses orelse after : List ℕ)
      → k ≡ kind_.Try b cs o f → slice ≡ cs.items
      → body ≡ before ++ headed_walk r whole false line (plain_suite b) → clauses ≡ body ++ clauses_walk r whole (plain_clauses slice) → orelse ≡ clauses ++ opt_walk r whole (plain_opt_suite o)
      → OnOk result (after ≡ orelse ++ opt_walk r whole (plain_opt_suite f)) → OnOk result (after ≡ before ++ kind_walk r whole line last (plain_kind k))
  tried result b cs slice o f before body clauses orelse after is same h1 h2 h3 h4 =
      let B = headed_walk r whole false line (plain_suite b) in
      let C = clauses_walk r whole (plain_clauses slice) in
      let O = opt_walk r whole (plain_opt_suite o) in
      let F = opt_walk r whole (plain_opt_suite f) in
      goes_on result before body after B (C ++ (O ++ F)) (kind_walk r whole line last (plain_kind k))
      (goes_on result body clauses after C (O ++ F) (C ++ (O ++ F)) (goes_on result clauses orelse after O F (O ++ F) h4 h3 refl) h2 refl)
      h1
      (of-try b cs slice o f is same)

-- the header of a `match`, and then its cases
pub in_two : (r : Rule) (whole : Bool) (line l : ℕ) {E : Type 0} (result : Result (Unit {0}) E) (slice : List Case) (inner : Bool) (before mid after : List ℕ)
    → inner ≡ is_whole r whole line l → mid ≡ before ++ mark_if (is_gathered r whole line l) line
    → OnOk result (after ≡ mid ++ cases_walk r inner (plain_cases slice))
    → OnOk result (after ≡ before ++ (mark_if (is_gathered r whole line l) line ++ cases_walk r (is_whole r whole line l) (plain_cases slice)))
in_two r whole line l result slice inner before mid after in-is first h =
    let M = mark_if (is_gathered r whole line l) line in
    goes_on result before mid after M (cases_walk r inner (plain_cases slice)) (M ++ cases_walk r (is_whole r whole line l) (plain_cases slice)) h first (ap (λ w. M ++ cases_walk r w (plain_cases slice)) (sym in-is))

-- one statement further
pub turn : (r : Rule) (whole leads : Bool) (now next was : List ℕ) (xs : List Stmt) (i : ℕ) (s : Stmt) → i < length xs → s ≡ get_or xs i s
    → next ≡ now ++ leading_walk r whole leads (out-Stmt s).first (out-Stmt s).last (plain_kind (out-Stmt s).kind)
    → now ++ stmts_walk r whole leads (plain_stmts (drop i xs)) ≡ was → next ++ stmts_walk r whole false (plain_stmts (drop (i + 1) xs)) ≡ was
turn r whole leads now next was xs i s lt is e h =
    let one = leading_walk r whole leads (out-Stmt s).first (out-Stmt s).last (plain_kind (out-Stmt s).kind) in
    let rest = plain_stmts (drop (i + 1) xs) in
    ap (λ k. k ++ stmts_walk r whole false rest) e
    ∙ append_assoc now one (stmts_walk r whole false rest)
    ∙ ap (λ k. now ++ k) (sym (ap (stmts_walk r whole leads) (plain-Stmts s (drop (i + 1) xs))) ∙ ap (λ ss. stmts_walk r whole leads (plain_stmts ss)) (sym (the_drop xs i s lt is)))
    ∙ h
