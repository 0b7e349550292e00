-- The one walk gathers all marks, the excluded ones, or those that are touched.
use Rattle.std.proofs.Common.{◌≡◌, ℕ, Bool, true, false, if◌then◌else◌, List, [], ◌∷◌, ◌++◌, refl, ap, ap₂, ◌∙◌, append_assoc}
use Rattle.py_syntax.specs.Functions.{is_docstring}
use Rattle.py_syntax.specs.Marks.{stmts_marks, kind_marks, opt_marks, arms_marks, clauses_marks, cases_marks, body_marks}
use Rattle.py_syntax.specs.Tree.{Stmts, no_stmts, stmt, suite, OptSuite, no_suite, has_suite, Arms, no_arms, arm, Clauses, no_clauses, clause, Cases, no_cases, case, StmtKind, expr, assign, aug_assign, pass, break, continue, return, raise, assert, global, import, from, if', while, for, try, def, match}
use Rattle.cov_exclude.specs.Touched.{mark_if}
use Rattle.cov_exclude.specs.Excluded.{stmts_excluded, kind_excluded, opt_excluded, arms_excluded, clauses_excluded, cases_excluded, body_excluded}
use Rattle.cov_exclude.specs.NoBranch.{stmts_touched, kind_touched, opt_touched, arms_touched, clauses_touched, cases_touched, body_touched}
use Rattle.cov_exclude.specs.Walk.{Rule, stmts_walk, kind_walk, opt_walk, arms_walk, clauses_walk, cases_walk}

-- two parts in a row
both : {a b c d : List ℕ} → a ≡ c → b ≡ d → (a ++ b) ≡ (c ++ d)
both e f = ap₂ (λ x y. x ++ y) e f

-- a mark and two parts after it
marked : (m : List ℕ) {a b c d : List ℕ} → a ≡ c → b ≡ d → ((m ++ a) ++ b) ≡ (m ++ (c ++ d))
marked m {a} {b} e f = append_assoc m a b ∙ ap (λ x. m ++ x) (both e f)

-- the first statement of a body, which may be a docstring, and the others
leading : (docstring : Bool) {k k' s s' : List ℕ} → k ≡ k' → s ≡ s' → ((if docstring then [] else k) ++ s) ≡ (if docstring then s' else k' ++ s')
leading true e f = f
leading false e f = both e f

-- a header and its suite
headed : (hit : Bool) (line : ℕ) (w : Bool → List ℕ) {all some : List ℕ} → w true ≡ all → w false ≡ some → (mark_if hit line ++ w hit) ≡ (if hit then line ∷ all else some)
headed true line w e f = ap (λ x. line ∷ x) e
headed false line w e f = f

unmarked : (hit : Bool) (w : Bool → List ℕ) {all some : List ℕ} → w true ≡ all → w false ≡ some → w hit ≡ (if hit then all else some)
unmarked true w e f = e
unmarked false w e f = f

-- ---- all marks

mutual
  pub stmts-whole : (r : Rule) (ss : Stmts) → stmts_walk r true false ss ≡ stmts_marks ss
  stmts-whole r no_stmts = refl
  stmts-whole r (stmt first last k e ss) = both (kind-whole r first last k) (stmts-whole r ss)

  kind-whole : (r : Rule) (first last : ℕ) (k : StmtKind) → kind_walk r true first last k ≡ kind_marks first k
  kind-whole r first last (expr e) = refl
  kind-whole r first last (assign ts e) = refl
  kind-whole r first last (aug_assign t op e) = refl
  kind-whole r first last pass = refl
  kind-whole r first last break = refl
  kind-whole r first last continue = refl
  kind-whole r first last (return e) = refl
  kind-whole r first last (raise e) = refl
  kind-whole r first last (assert e w) = refl
  kind-whole r first last (global xs) = refl
  kind-whole r first last (import names) = refl
  kind-whole r first last (from m names) = refl
  kind-whole r first last (if' arms o) = both (arms-whole r arms) (opt-whole r o)
  kind-whole r first last (while t (suite f l inline b) o) = ap (λ x. first ∷ x) (both (stmts-whole r b) (opt-whole r o))
  kind-whole r first last (for t e (suite f l inline b) o) = ap (λ x. first ∷ x) (both (stmts-whole r b) (opt-whole r o))
  kind-whole r first last (try (suite f l inline b) cs o fin) = ap (λ x. first ∷ x) (both (stmts-whole r b) (both (clauses-whole r cs) (both (opt-whole r o) (opt-whole r fin))))
  kind-whole r first last (def x ps ds c (suite f l inline b)) = ap (λ x. first ∷ x) (body-whole r b)
  kind-whole r first last (match e header_last cs) = ap (λ x. first ∷ x) (cases-whole r cs)

  opt-whole : (r : Rule) (o : OptSuite) → opt_walk r true o ≡ opt_marks o
  opt-whole r no_suite = refl
  opt-whole r (has_suite (suite f l inline b)) = stmts-whole r b

  arms-whole : (r : Rule) (arms : Arms) → arms_walk r true arms ≡ arms_marks arms
  arms-whole r no_arms = refl
  arms-whole r (arm t (suite f l inline b) arms) = ap (λ x. f ∷ x) (both (stmts-whole r b) (arms-whole r arms))

  clauses-whole : (r : Rule) (cs : Clauses) → clauses_walk r true cs ≡ clauses_marks cs
  clauses-whole r no_clauses = refl
  clauses-whole r (clause e x (suite f l inline b) cs) = ap (λ x. f ∷ x) (both (stmts-whole r b) (clauses-whole r cs))

  pub cases-whole : (r : Rule) (cs : Cases) → cases_walk r true cs ≡ cases_marks cs
  cases-whole r no_cases = refl
  cases-whole r (case p g (suite f l inline b) cs) = ap (λ x. f ∷ x) (both (stmts-whole r b) (cases-whole r cs))

  pub body-whole : (r : Rule) (ss : Stmts) → stmts_walk r true true ss ≡ body_marks ss
  body-whole r no_stmts = refl
  body-whole r (stmt first last k e ss) = leading (is_docstring k) (kind-whole r first last k) (stmts-whole r ss)

-- ---- the excluded marks

abbrev pub excluding : (ℕ → ℕ → Bool) → Rule
excluding t = record { touched = t; spreads = true }

mutual
  stmts-excluded : (t : ℕ → ℕ → Bool) (ss : Stmts) → stmts_walk (excluding t) false false ss ≡ stmts_excluded t ss
  stmts-excluded t no_stmts = refl
  stmts-excluded t (stmt first last k e ss) = both (kind-excluded t first last k) (stmts-excluded t ss)

  kind-excluded : (t : ℕ → ℕ → Bool) (first last : ℕ) (k : StmtKind) → kind_walk (excluding t) false first last k ≡ kind_excluded t first last k
  kind-excluded t first last (expr e) = refl
  kind-excluded t first last (assign ts e) = refl
  kind-excluded t first last (aug_assign p op e) = refl
  kind-excluded t first last pass = refl
  kind-excluded t first last break = refl
  kind-excluded t first last continue = refl
  kind-excluded t first last (return e) = refl
  kind-excluded t first last (raise e) = refl
  kind-excluded t first last (assert e w) = refl
  kind-excluded t first last (global xs) = refl
  kind-excluded t first last (import names) = refl
  kind-excluded t first last (from m names) = refl
  kind-excluded t first last (if' arms o) = both (arms-excluded t arms) (opt-excluded t o)
  kind-excluded t first last (while e (suite f l inline b) o) =
      both (headed (t f l) first (λ h. stmts_walk (excluding t) h false b) (stmts-whole (excluding t) b) (stmts-excluded t b)) (opt-excluded t o)
  kind-excluded t first last (for x e (suite f l inline b) o) =
      both (headed (t f l) first (λ h. stmts_walk (excluding t) h false b) (stmts-whole (excluding t) b) (stmts-excluded t b)) (opt-excluded t o)
  kind-excluded t first last (try (suite f l inline b) cs o fin) =
      both (headed (t f l) first (λ h. stmts_walk (excluding t) h false b) (stmts-whole (excluding t) b) (stmts-excluded t b)) (both (clauses-excluded t cs) (both (opt-excluded t o) (opt-excluded t fin)))
  kind-excluded t first last (def x ps ds c (suite f l inline b)) =
      headed (t f l) first (λ h. stmts_walk (excluding t) h true b) (body-whole (excluding t) b) (body-excluded t b)
  kind-excluded t first last (match e header_last cs) =
      headed (t first header_last) first (λ h. cases_walk (excluding t) h cs) (cases-whole (excluding t) cs) (cases-excluded t cs)

  opt-excluded : (t : ℕ → ℕ → Bool) (o : OptSuite) → opt_walk (excluding t) false o ≡ opt_excluded t o
  opt-excluded t no_suite = refl
  opt-excluded t (has_suite (suite f l inline b)) = unmarked (t f l) (λ h. stmts_walk (excluding t) h false b) (stmts-whole (excluding t) b) (stmts-excluded t b)

  arms-excluded : (t : ℕ → ℕ → Bool) (arms : Arms) → arms_walk (excluding t) false arms ≡ arms_excluded t arms
  arms-excluded t no_arms = refl
  arms-excluded t (arm e (suite f l inline b) arms) =
      both (headed (t f l) f (λ h. stmts_walk (excluding t) h false b) (stmts-whole (excluding t) b) (stmts-excluded t b)) (arms-excluded t arms)

  clauses-excluded : (t : ℕ → ℕ → Bool) (cs : Clauses) → clauses_walk (excluding t) false cs ≡ clauses_excluded t cs
  clauses-excluded t no_clauses = refl
  clauses-excluded t (clause e x (suite f l inline b) cs) =
      both (headed (t f l) f (λ h. stmts_walk (excluding t) h false b) (stmts-whole (excluding t) b) (stmts-excluded t b)) (clauses-excluded t cs)

  cases-excluded : (t : ℕ → ℕ → Bool) (cs : Cases) → cases_walk (excluding t) false cs ≡ cases_excluded t cs
  cases-excluded t no_cases = refl
  cases-excluded t (case p g (suite f l inline b) cs) =
      both (headed (t f l) f (λ h. stmts_walk (excluding t) h false b) (stmts-whole (excluding t) b) (stmts-excluded t b)) (cases-excluded t cs)

  pub body-excluded : (t : ℕ → ℕ → Bool) (ss : Stmts) → stmts_walk (excluding t) false true ss ≡ body_excluded t ss
  body-excluded t no_stmts = refl
  body-excluded t (stmt first last k e ss) = leading (is_docstring k) (kind-excluded t first last k) (stmts-excluded t ss)

-- ---- the marks that are touched

abbrev pub touching : (ℕ → ℕ → Bool) → Rule
touching t = record { touched = t; spreads = false }

mutual
  stmts-touched : (t : ℕ → ℕ → Bool) (ss : Stmts) → stmts_walk (touching t) false false ss ≡ stmts_touched t ss
  stmts-touched t no_stmts = refl
  stmts-touched t (stmt first last k e ss) = both (kind-touched t first last k) (stmts-touched t ss)

  kind-touched : (t : ℕ → ℕ → Bool) (first last : ℕ) (k : StmtKind) → kind_walk (touching t) false first last k ≡ kind_touched t first last k
  kind-touched t first last (expr e) = refl
  kind-touched t first last (assign ts e) = refl
  kind-touched t first last (aug_assign p op e) = refl
  kind-touched t first last pass = refl
  kind-touched t first last break = refl
  kind-touched t first last continue = refl
  kind-touched t first last (return e) = refl
  kind-touched t first last (raise e) = refl
  kind-touched t first last (assert e w) = refl
  kind-touched t first last (global xs) = refl
  kind-touched t first last (import names) = refl
  kind-touched t first last (from m names) = refl
  kind-touched t first last (if' arms o) = both (arms-touched t arms) (opt-touched t o)
  kind-touched t first last (while e (suite f l inline b) o) = marked (mark_if (t f l) first) (stmts-touched t b) (opt-touched t o)
  kind-touched t first last (for x e (suite f l inline b) o) = marked (mark_if (t f l) first) (stmts-touched t b) (opt-touched t o)
  kind-touched t first last (try (suite f l inline b) cs o fin) =
      marked (mark_if (t f l) first) (stmts-touched t b) (both (clauses-touched t cs) (both (opt-touched t o) (opt-touched t fin)))
  kind-touched t first last (def x ps ds c (suite f l inline b)) = ap (λ y. mark_if (t f l) first ++ y) (body-touched t b)
  kind-touched t first last (match e header_last cs) = ap (λ y. mark_if (t first header_last) first ++ y) (cases-touched t cs)

  opt-touched : (t : ℕ → ℕ → Bool) (o : OptSuite) → opt_walk (touching t) false o ≡ opt_touched t o
  opt-touched t no_suite = refl
  opt-touched t (has_suite (suite f l inline b)) = stmts-touched t b

  arms-touched : (t : ℕ → ℕ → Bool) (arms : Arms) → arms_walk (touching t) false arms ≡ arms_touched t arms
  arms-touched t no_arms = refl
  arms-touched t (arm e (suite f l inline b) arms) = marked (mark_if (t f l) f) (stmts-touched t b) (arms-touched t arms)

  clauses-touched : (t : ℕ → ℕ → Bool) (cs : Clauses) → clauses_walk (touching t) false cs ≡ clauses_touched t cs
  clauses-touched t no_clauses = refl
  clauses-touched t (clause e x (suite f l inline b) cs) = marked (mark_if (t f l) f) (stmts-touched t b) (clauses-touched t cs)

  cases-touched : (t : ℕ → ℕ → Bool) (cs : Cases) → cases_walk (touching t) false cs ≡ cases_touched t cs
  cases-touched t no_cases = refl
  cases-touched t (case p g (suite f l inline b) cs) = marked (mark_if (t f l) f) (stmts-touched t b) (cases-touched t cs)

  pub body-touched : (t : ℕ → ℕ → Bool) (ss : Stmts) → stmts_walk (touching t) false true ss ≡ body_touched t ss
  body-touched t no_stmts = refl
  body-touched t (stmt first last k e ss) = leading (is_docstring k) (kind-touched t first last k) (stmts-touched t ss)
