-- Other lines leave a tree as high and as deep as it was.
use Rattle.std.proofs.Common.{◌≡◌, ℕ, suc, true, false, ◌∷◌, refl, ap, arith}
use Rattle.py_token.specs.declared.token.Keyword.TheVariants as word
use Rattle.py_syntax.specs.Tree.{Stmts, no_stmts, stmt, Suite, suite, OptSuite, no_suite, has_suite, Arms, no_arms, arm, Clauses, no_clauses, clause, Cases, no_cases, case, StmtKind, if', while, for, try, def, match}
use Rattle.py_syntax.specs.Kinds.{Name}
use Rattle.py_syntax.specs.Tokens.{pattern_tokens}
use Rattle.py_syntax.specs.Statements.{end_tokens, except_tokens, guard_tokens, case_name, stmts_height, kind_height, suite_height, opt_height, arms_height, clauses_height, cases_height, stmts_nesting, kind_nesting, suite_nesting, opt_nesting, arms_nesting, clauses_nesting, cases_nesting}
use Rattle.py_syntax.specs.Spelling.{test_head, for_head}
use Rattle.py_parse.specs.Places.{kinds_past, def_head, match_head, kind_past, suite_past, opt_past, arms_past, clauses_past, Source, relined, relined_kind, relined_suite, relined_opt, relined_arms, relined_clauses, relined_cases}

mutual
  stmts_same : (src : Source) (m : Stmts) (p : ℕ) → (stmts_height (relined src m p) ≡ stmts_height m) × (stmts_nesting (relined src m p) ≡ stmts_nesting m)
  stmts_same src no_stmts p = (refl, refl)
  stmts_same src (stmt first last k e ss) p =
      let a = kind_same src k p in
      let b = stmts_same src ss (kinds_past (end_tokens e) (kind_past k p)) in
      let a0 = a.0 in let a1 = a.1 in let b0 = b.0 in let b1 = b.1 in
      (omega arith, omega arith)

  kind_same : (src : Source) (k : StmtKind) (p : ℕ) → (kind_height (relined_kind src k p) ≡ kind_height k) × (kind_nesting (relined_kind src k p) ≡ kind_nesting k)
  kind_same src (if' arms o) p =
      let a = arms_same src arms p in
      let b = opt_same src o (arms_past arms p) in
      let a0 = a.0 in let a1 = a.1 in let b0 = b.0 in let b1 = b.1 in
      (omega arith, omega arith)
  kind_same src (while t s o) p =
      let a = suite_same src s p (kinds_past (test_head word.While t) p) in
      let b = opt_same src o (suite_past s (kinds_past (test_head word.While t) p)) in
      let a0 = a.0 in let a1 = a.1 in let b0 = b.0 in let b1 = b.1 in
      (omega arith, omega arith)
  kind_same src (for t e s o) p =
      let a = suite_same src s p (kinds_past (for_head t e) p) in
      let b = opt_same src o (suite_past s (kinds_past (for_head t e) p)) in
      let a0 = a.0 in let a1 = a.1 in let b0 = b.0 in let b1 = b.1 in
      (omega arith, omega arith)
  kind_same src (try s cs o f) p =
      let a = suite_same src s p (suc (suc p)) in
      let b = clauses_same src cs (suite_past s (suc (suc p))) in
      let c = opt_same src o (clauses_past cs (suite_past s (suc (suc p)))) in
      let d = opt_same src f (opt_past o (clauses_past cs (suite_past s (suc (suc p))))) in
      let a0 = a.0 in let a1 = a.1 in let b0 = b.0 in let b1 = b.1 in let c0 = c.0 in let c1 = c.1 in let d0 = d.0 in let d1 = d.1 in
      (omega arith, omega arith)
  kind_same src (def x ps ds c s) p =
      let a = suite_same src s p (kinds_past (def_head x ps ds c) p) in
      let a0 = a.0 in let a1 = a.1 in
      (omega arith, omega arith)
  kind_same src (match e last cs) p =
      let a = cases_same src cs (suc (suc (kinds_past (match_head e) (suc p)))) in
      let a0 = a.0 in let a1 = a.1 in
      (omega arith, omega arith)
  kind_same src k p = (refl, refl)

  suite_same : (src : Source) (s : Suite) (h p : ℕ) → (suite_height (relined_suite src s h p) ≡ suite_height s) × (suite_nesting (relined_suite src s h p) ≡ suite_nesting s)
  suite_same src (suite first last true b) h p = let a = stmts_same src b p in (a.0, ap suc a.1)
  suite_same src (suite first last false b) h p = let a = stmts_same src b (suc (suc p)) in (a.0, ap suc a.1)

  opt_same : (src : Source) (o : OptSuite) (p : ℕ) → (opt_height (relined_opt src o p) ≡ opt_height o) × (opt_nesting (relined_opt src o p) ≡ opt_nesting o)
  opt_same src no_suite p = (refl, refl)
  opt_same src (has_suite s) p = suite_same src s p (suc (suc p))

  arms_same : (src : Source) (arms : Arms) (p : ℕ) → (arms_height (relined_arms src arms p) ≡ arms_height arms) × (arms_nesting (relined_arms src arms p) ≡ arms_nesting arms)
  arms_same src no_arms p = (refl, refl)
  arms_same src (arm t s arms) p =
      let a = suite_same src s p (kinds_past (test_head word.If t) p) in
      let b = arms_same src arms (suite_past s (kinds_past (test_head word.If t) p)) in
      let a0 = a.0 in let a1 = a.1 in let b0 = b.0 in let b1 = b.1 in
      (omega arith, omega arith)

  clauses_same : (src : Source) (cs : Clauses) (p : ℕ) → (clauses_height (relined_clauses src cs p) ≡ clauses_height cs) × (clauses_nesting (relined_clauses src cs p) ≡ clauses_nesting cs)
  clauses_same src no_clauses p = (refl, refl)
  clauses_same src (clause e x s cs) p =
      let a = suite_same src s p (kinds_past (except_tokens e x) p) in
      let b = clauses_same src cs (suite_past s (kinds_past (except_tokens e x) p)) in
      let a0 = a.0 in let a1 = a.1 in let b0 = b.0 in let b1 = b.1 in
      (omega arith, omega arith)

  cases_same : (src : Source) (cs : Cases) (p : ℕ) → (cases_height (relined_cases src cs p) ≡ cases_height cs) × (cases_nesting (relined_cases src cs p) ≡ cases_nesting cs)
  cases_same src no_cases p = (refl, refl)
  cases_same src (case c g s cs) p =
      let a = suite_same src s p (kinds_past (Name case_name ∷ pattern_tokens c (guard_tokens g)) p) in
      let b = cases_same src cs (suite_past s (kinds_past (Name case_name ∷ pattern_tokens c (guard_tokens g)) p)) in
      let a0 = a.0 in let a1 = a.1 in let b0 = b.0 in let b1 = b.1 in
      (omega arith, omega arith)

pub relined_height : (src : Source) (m : Stmts) (p : ℕ) → stmts_height (relined src m p) ≡ stmts_height m
relined_height src m p = (stmts_same src m p).0

pub relined_nesting : (src : Source) (m : Stmts) (p : ℕ) → stmts_nesting (relined src m p) ≡ stmts_nesting m
relined_nesting src m p = (stmts_same src m p).1
