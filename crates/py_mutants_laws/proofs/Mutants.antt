-- Mutants of statements are versions of them, at the line of their mark.
--     Marks                     what holds of each mutant and of the line of its mark
use Rattle.std.proofs.Common.{ℕ, List, [], ◌∷◌, ◌++◌, refl, inl, inr}
use Rattle.std.specs.List.{AllByRecursion}
use Rattle.py_syntax.specs.Tree.{Stmts, no_stmts, stmt, Suite, suite, OptSuite, no_suite, has_suite, Arms, no_arms, arm, Clauses, no_clauses, clause, Cases, no_cases, case, StmtKind, expr, assign, aug_assign, pass, break, continue, return, raise, assert, global, import, from, if', while, for, try, def, match}
use Rattle.py_changes.specs.Mutants.{Changes, Mutants, around, at_mark, header_line, augmented_change, expr_mutants, exprs_mutants, maybe_mutants, stmts_mutants, kind_mutants, suite_mutants, opt_suite_mutants, arms_mutants, clauses_mutants, cases_mutants}
use Rattle.py_changes.proofs.Lists.{all-joined}
use Rattle.py_changes.proofs.MutantLaws.{Each}
use Rattle.py_mutants_laws.proofs.Versions.{Alike, AlikeAll, AlikeMaybe, AnyOperator, Rows, Kinds, Suites, Opts, ArmsOf, ClausesOf, CasesOf}
use Rattle.py_mutants_laws.proofs.Itself.{rows-self, kinds-self, suites-self, opts-self, arms-self, clauses-self, cases-self}
use Rattle.py_mutants_laws.proofs.Alikeness.{expr-alike, exprs-alike, maybe-alike}

-- what holds of each mutant and of the line of its mark
abbrev pub Marks : {A : Type 0} → (ℕ → A → Type 0) → Mutants A → Type 0
Marks P xs = AllByRecursion (λ x. P x.0.0 x.1) xs

pub marks-joined : {A : Type 0} (P : ℕ → A → Type 0) (xs ys : Mutants A) → Marks P xs
    → Marks P ys → Marks P (xs ++ ys)
marks-joined P xs ys h k = all-joined (λ x. P x.0.0 x.1) xs ys h k

-- around mutants of a part
pub marks-around : {A B : Type 0} (P : ℕ → B → Type 0) (f : A → B) (Q : ℕ → A → Type 0)
    → ((l : ℕ) (x : A) → Q l x → P l (f x)) → (xs : Mutants A) → Marks Q xs
    → Marks P (around f xs)
marks-around P f Q i [] h = tt
marks-around P f Q i (x ∷ xs) h = (i x.0.0 x.1 h.0, marks-around P f Q i xs h.1)

-- around changes of a part at one mark
pub marks-at : {A B : Type 0} (P : ℕ → B → Type 0) (m : ℕ) (f : A → B) (Q : A → Type 0)
    → ((x : A) → Q x → P m (f x)) → (xs : Changes A) → Each Q xs
    → Marks P (around f (at_mark m xs))
marks-at P m f Q i [] h = tt
marks-at P m f Q i (x ∷ xs) h = (i x.1 h.0, marks-at P m f Q i xs h.1)

-- of changes nothing is asked
each-any : {X A : Type 0} (P : A → Type 0) → ((x : A) → P x) → (xs : List (X × A)) → Each P xs
each-any P h [] = tt
each-any P h (x ∷ xs) = (h x.1, each-any P h xs)

mutual
  pub rows-mutants : (a : Stmts) → Marks (λ l b. Rows l a b) (stmts_mutants a)
  rows-mutants no_stmts = tt
  rows-mutants (stmt f a k e r) =
      marks-joined (λ l b. Rows l (stmt f a k e r) b) (around (λ j. stmt f a j e r)
      (kind_mutants f k))
      (around (λ s. stmt f a k e s) (stmts_mutants r))
      (marks-around (λ l b. Rows l (stmt f a k e r) b) (λ j. stmt f a j e r)
      (λ l j. Kinds l f k j)
      (λ l j h. (refl, h, rows-self l r, refl)) (kind_mutants f k) (kinds-mutants f k))
      (marks-around (λ l b. Rows l (stmt f a k e r) b) (λ s. stmt f a k e s) (λ l s. Rows l r s)
      (λ l s h. (refl, kinds-self l f k, h, refl)) (stmts_mutants r) (rows-mutants r))

  pub kinds-mutants : (m : ℕ) (k : StmtKind) → Marks (λ l j. Kinds l m k j) (kind_mutants m k)
  kinds-mutants m (expr e) =
      marks-at (λ l j. Kinds l m (expr e) j) m (λ z. expr z) (Alike e) (λ z h. inr (refl, h))
      (expr_mutants e) (expr-alike e)
  kinds-mutants m (assign ts e) =
      marks-joined (λ l j. Kinds l m (assign ts e) j) (around (λ z. assign z e) (at_mark m
      (exprs_mutants ts))) _ (marks-at (λ l j. Kinds l m (assign ts e) j) m (λ z. assign z e)
      (AlikeAll ts) (λ z h. (inr (refl, h), inl refl)) (exprs_mutants ts) (exprs-alike ts))
      (marks-at (λ l j. Kinds l m (assign ts e) j) m (λ z. assign ts z) (Alike e) (λ z h.
      (inl refl, inr (refl, h))) (expr_mutants e) (expr-alike e))
  kinds-mutants m (aug_assign t op e) =
      marks-joined (λ l j. Kinds l m (aug_assign t op e) j) (around (λ z. aug_assign z op e)
      (at_mark m (expr_mutants t))) _ (marks-at (λ l j. Kinds l m (aug_assign t op e) j) m
      (λ z. aug_assign z op e) (Alike t) (λ z h. (inr (refl, h), inl refl, inl refl))
      (expr_mutants t) (expr-alike t))
      (marks-joined (λ l j. Kinds l m (aug_assign t op e) j) (around (λ z. aug_assign t z e)
      (at_mark m (augmented_change op))) _ (marks-at (λ l j. Kinds l m (aug_assign t op e) j) m
      (λ z. aug_assign t z e) (AnyOperator op) (λ z h. (inl refl, inr (refl, h), inl refl))
      (augmented_change op) (each-any (AnyOperator op) (λ x. tt) (augmented_change op)))
      (marks-at (λ l j. Kinds l m (aug_assign t op e) j) m (λ z. aug_assign t op z) (Alike e)
      (λ z h. (inl refl, inl refl, inr (refl, h))) (expr_mutants e) (expr-alike e)))
  kinds-mutants m pass = tt
  kinds-mutants m break = tt
  kinds-mutants m continue = tt
  kinds-mutants m (return e) =
      marks-at (λ l j. Kinds l m (return e) j) m (λ z. return z) (AlikeMaybe e) (λ z h. inr
      (refl, h)) (maybe_mutants e) (maybe-alike e)
  kinds-mutants m (raise e) =
      marks-at (λ l j. Kinds l m (raise e) j) m (λ z. raise z) (AlikeMaybe e) (λ z h. inr
      (refl, h)) (maybe_mutants e) (maybe-alike e)
  kinds-mutants m (assert e w) =
      marks-joined (λ l j. Kinds l m (assert e w) j) (around (λ z. assert z w) (at_mark m
      (expr_mutants e))) _ (marks-at (λ l j. Kinds l m (assert e w) j) m (λ z. assert z w)
      (Alike e) (λ z h. (inr (refl, h), inl refl)) (expr_mutants e) (expr-alike e))
      (marks-at (λ l j. Kinds l m (assert e w) j) m (λ z. assert e z) (AlikeMaybe w) (λ z h.
      (inl refl, inr (refl, h))) (maybe_mutants w) (maybe-alike w))
  kinds-mutants m (global xs) = tt
  kinds-mutants m (import names) = tt
  kinds-mutants m (from x names) = tt
  kinds-mutants m (if' us o) =
      marks-joined (λ l j. Kinds l m (if' us o) j) (around (λ z. if' z o) (arms_mutants us)) _
      (marks-around (λ l j. Kinds l m (if' us o) j) (λ z. if' z o) (λ l t. ArmsOf l us t)
      (λ l z h. (h, opts-self l o)) (arms_mutants us) (arms-mutants us))
      (marks-around (λ l j. Kinds l m (if' us o) j) (λ z. if' us z) (λ l t. Opts l o t) (λ l z h.
      (arms-self l us, h)) (opt_suite_mutants o) (opts-mutants o))
  kinds-mutants m (while e s o) =
      marks-joined (λ l j. Kinds l m (while e s o) j) (around (λ z. while z s o) (at_mark m
      (expr_mutants e))) _ (marks-at (λ l j. Kinds l m (while e s o) j) m (λ z. while z s o)
      (Alike e) (λ z h. (inr (refl, h), suites-self m s, opts-self m o)) (expr_mutants e)
      (expr-alike e))
      (marks-joined (λ l j. Kinds l m (while e s o) j) (around (λ z. while e z o)
      (suite_mutants s)) _ (marks-around (λ l j. Kinds l m (while e s o) j) (λ z. while e z o)
      (λ l t. Suites l s t) (λ l z h. (inl refl, h, opts-self l o)) (suite_mutants s)
      (suites-mutants s))
      (marks-around (λ l j. Kinds l m (while e s o) j) (λ z. while e s z) (λ l t. Opts l o t)
      (λ l z h. (inl refl, suites-self l s, h)) (opt_suite_mutants o) (opts-mutants o)))
  kinds-mutants m (for x e s o) =
      marks-joined (λ l j. Kinds l m (for x e s o) j) (around (λ z. for z e s o) (at_mark m
      (expr_mutants x))) _ (marks-at (λ l j. Kinds l m (for x e s o) j) m (λ z. for z e s o)
      (Alike x) (λ z h. (inr (refl, h), inl refl, suites-self m s, opts-self m o))
      (expr_mutants x) (expr-alike x))
      (marks-joined (λ l j. Kinds l m (for x e s o) j) (around (λ z. for x z s o) (at_mark m
      (expr_mutants e))) _ (marks-at (λ l j. Kinds l m (for x e s o) j) m (λ z. for x z s o)
      (Alike e) (λ z h. (inl refl, inr (refl, h), suites-self m s, opts-self m o))
      (expr_mutants e) (expr-alike e))
      (marks-joined (λ l j. Kinds l m (for x e s o) j) (around (λ z. for x e z o)
      (suite_mutants s)) _ (marks-around (λ l j. Kinds l m (for x e s o) j) (λ z. for x e z o)
      (λ l t. Suites l s t) (λ l z h. (inl refl, inl refl, h, opts-self l o)) (suite_mutants s)
      (suites-mutants s))
      (marks-around (λ l j. Kinds l m (for x e s o) j) (λ z. for x e s z) (λ l t. Opts l o t)
      (λ l z h. (inl refl, inl refl, suites-self l s, h)) (opt_suite_mutants o)
      (opts-mutants o))))
  kinds-mutants m (try s cs o fin) =
      marks-joined (λ l j. Kinds l m (try s cs o fin) j) (around (λ z. try z cs o fin)
      (suite_mutants s)) _ (marks-around (λ l j. Kinds l m (try s cs o fin) j)
      (λ z. try z cs o fin) (λ l t. Suites l s t) (λ l z h.
      (h, clauses-self l cs, opts-self l o, opts-self l fin)) (suite_mutants s)
      (suites-mutants s))
      (marks-joined (λ l j. Kinds l m (try s cs o fin) j) (around (λ z. try s z o fin)
      (clauses_mutants cs)) _ (marks-around (λ l j. Kinds l m (try s cs o fin) j)
      (λ z. try s z o fin) (λ l t. ClausesOf l cs t) (λ l z h.
      (suites-self l s, h, opts-self l o, opts-self l fin)) (clauses_mutants cs)
      (clauses-mutants cs))
      (marks-joined (λ l j. Kinds l m (try s cs o fin) j) (around (λ z. try s cs z fin)
      (opt_suite_mutants o)) _ (marks-around (λ l j. Kinds l m (try s cs o fin) j)
      (λ z. try s cs z fin) (λ l t. Opts l o t) (λ l z h.
      (suites-self l s, clauses-self l cs, h, opts-self l fin)) (opt_suite_mutants o)
      (opts-mutants o))
      (marks-around (λ l j. Kinds l m (try s cs o fin) j) (λ z. try s cs o z)
      (λ l t. Opts l fin t) (λ l z h. (suites-self l s, clauses-self l cs, opts-self l o, h))
      (opt_suite_mutants fin) (opts-mutants fin))))
  kinds-mutants m (def x ps ds c s) =
      marks-joined (λ l j. Kinds l m (def x ps ds c s) j) (around (λ z. def x ps z c s) (at_mark m
      (exprs_mutants ds))) _ (marks-at (λ l j. Kinds l m (def x ps ds c s) j) m
      (λ z. def x ps z c s) (AlikeAll ds) (λ z h. (
        refl,
        refl,
        inr
            (refl, h),
        refl,
        suites-self m s,
      )) (exprs_mutants ds) (exprs-alike ds))
      (marks-around (λ l j. Kinds l m (def x ps ds c s) j) (λ z. def x ps ds c z)
      (λ l t. Suites l s t) (λ l z h. (refl, refl, inl refl, refl, h)) (suite_mutants s)
      (suites-mutants s))
  kinds-mutants m (match e last cs) =
      marks-joined (λ l j. Kinds l m (match e last cs) j) (around (λ z. match z last cs)
      (at_mark m (expr_mutants e))) _ (marks-at (λ l j. Kinds l m (match e last cs) j) m
      (λ z. match z last cs) (Alike e) (λ z h. (inr (refl, h), refl, cases-self m cs))
      (expr_mutants e) (expr-alike e))
      (marks-around (λ l j. Kinds l m (match e last cs) j) (λ z. match e last z)
      (λ l t. CasesOf l cs t) (λ l z h. (inl refl, refl, h)) (cases_mutants cs)
      (cases-mutants cs))

  pub suites-mutants : (s : Suite) → Marks (λ l t. Suites l s t) (suite_mutants s)
  suites-mutants (suite f a i b) =
      marks-around (λ l t. Suites l (suite f a i b) t) (λ c. suite f a i c) (λ l c. Rows l b c)
      (λ l c h. (refl, h, refl)) (stmts_mutants b) (rows-mutants b)

  pub opts-mutants : (o : OptSuite) → Marks (λ l q. Opts l o q) (opt_suite_mutants o)
  opts-mutants no_suite = tt
  opts-mutants (has_suite s) =
      marks-around (λ l q. Opts l (has_suite s) q) (λ t. has_suite t) (λ l t. Suites l s t)
      (λ l t h. h) (suite_mutants s) (suites-mutants s)

  pub arms-mutants : (us : Arms) → Marks (λ l bs. ArmsOf l us bs) (arms_mutants us)
  arms-mutants no_arms = tt
  arms-mutants (arm e s r) =
      marks-joined (λ l bs. ArmsOf l (arm e s r) bs) (around (λ z. arm z s r) (at_mark
      (header_line s) (expr_mutants e))) _ (marks-at (λ l bs. ArmsOf l (arm e s r) bs)
      (header_line s) (λ z. arm z s r) (Alike e) (λ z h. (
        inr (refl, h),
        suites-self
            (header_line s) s,
        arms-self (header_line s) r,
      )) (expr_mutants e) (expr-alike e))
      (marks-joined (λ l bs. ArmsOf l (arm e s r) bs) (around (λ z. arm e z r) (suite_mutants s))
      _ (marks-around (λ l bs. ArmsOf l (arm e s r) bs) (λ z. arm e z r) (λ l t. Suites l s t)
      (λ l z h. (inl refl, h, arms-self l r)) (suite_mutants s) (suites-mutants s))
      (marks-around (λ l bs. ArmsOf l (arm e s r) bs) (λ z. arm e s z) (λ l t. ArmsOf l r t)
      (λ l z h. (inl refl, suites-self l s, h)) (arms_mutants r) (arms-mutants r)))

  pub clauses-mutants : (cs : Clauses) → Marks (λ l ds. ClausesOf l cs ds) (clauses_mutants cs)
  clauses-mutants no_clauses = tt
  clauses-mutants (clause e x s r) =
      marks-joined (λ l ds. ClausesOf l (clause e x s r) ds) (around (λ z. clause z x s r)
      (at_mark (header_line s) (maybe_mutants e))) _ (marks-at (λ l ds. ClausesOf l
      (clause e x s r) ds) (header_line s) (λ z. clause z x s r) (AlikeMaybe e) (λ z h. (
        inr
            (refl, h),
        refl,
        suites-self (header_line s) s,
        clauses-self (header_line s) r,
      ))
      (maybe_mutants e) (maybe-alike e))
      (marks-joined (λ l ds. ClausesOf l (clause e x s r) ds) (around (λ z. clause e x z r)
      (suite_mutants s)) _ (marks-around (λ l ds. ClausesOf l (clause e x s r) ds)
      (λ z. clause e x z r) (λ l t. Suites l s t) (λ l z h. (inl refl, refl, h, clauses-self l r))
      (suite_mutants s) (suites-mutants s))
      (marks-around (λ l ds. ClausesOf l (clause e x s r) ds) (λ z. clause e x s z)
      (λ l t. ClausesOf l r t) (λ l z h. (inl refl, refl, suites-self l s, h)) (clauses_mutants r)
      (clauses-mutants r)))

  pub cases-mutants : (cs : Cases) → Marks (λ l ds. CasesOf l cs ds) (cases_mutants cs)
  cases-mutants no_cases = tt
  cases-mutants (case p g s r) =
      marks-joined (λ l ds. CasesOf l (case p g s r) ds) (around (λ z. case p z s r) (at_mark
      (header_line s) (maybe_mutants g))) _ (marks-at (λ l ds. CasesOf l (case p g s r) ds)
      (header_line s) (λ z. case p z s r) (AlikeMaybe g) (λ z h. (
        refl,
        inr (refl, h),
        suites-self
            (header_line s) s,
        cases-self (header_line s) r,
      )) (maybe_mutants g) (maybe-alike g))
      (marks-joined (λ l ds. CasesOf l (case p g s r) ds) (around (λ z. case p g z r)
      (suite_mutants s)) _ (marks-around (λ l ds. CasesOf l (case p g s r) ds) (λ z. case p g z r)
      (λ l t. Suites l s t) (λ l z h. (refl, inl refl, h, cases-self l r)) (suite_mutants s)
      (suites-mutants s))
      (marks-around (λ l ds. CasesOf l (case p g s r) ds) (λ z. case p g s z)
      (λ l t. CasesOf l r t) (λ l z h. (refl, inl refl, suites-self l s, h)) (cases_mutants r)
      (cases-mutants r)))
