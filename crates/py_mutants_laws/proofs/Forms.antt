-- Versions of normal statements are normal.
use Rattle.std.proofs.Common.{◌≡◌, ℕ, suc, ◌≤◌, Bool, true, false, List, [], ◌∷◌, length, Option, refl, sym, ◌∙◌, subst, inl, inr}
use Rattle.std.proofs.lemmas.List.Elements.{All-from_recursion}
use Rattle.py_syntax.specs.Normal.{LExpr, rank, Normal, IsSomething, is_target, is_place, NormalPattern}
use Rattle.py_syntax.specs.Statements.{is_simple, begins_simple, EndsLine, EndLines, ShareLine, IsOption, NormalExpr, NormalClauseHead, IsSuite, NormalTry, NormalParams, AreSome, NormalStmts, NormalKind, NormalSuite, NormalOpt, NormalArms, NormalClauses, NormalCases}
use Rattle.py_syntax.specs.Tree.{Text, Expr, Exprs, no_exprs, exprs}
use Rattle.py_syntax.specs.Tree.{Stmts, no_stmts, stmt, Suite, suite, OptSuite, no_suite, has_suite, Arms, no_arms, arm, Clauses, no_clauses, clause, Cases, no_cases, case, StmtKind, expr, assign, aug_assign, pass, break, continue, return, raise, assert, global, import, from, if', while, for, try, def, match}
use Rattle.py_changes.specs.Mutants.{header_line, module_mutants}
use Rattle.py_changes.proofs.Lists.{all-weaker}
use Rattle.py_mutants_laws.specs.Sound.{MutantsKeepForms}
use Rattle.py_mutants_laws.proofs.Mutants.{rows-mutants}
use Rattle.py_mutants_laws.proofs.Versions.{Alike, AlikeAll, AlikeMaybe, KeptAll, Here, Rows, Kinds, Suites, Opts, ArmsOf, ClausesOf, CasesOf}

assign-value : (us : Exprs) (e f : Expr) → (Normal e → Normal f) → NormalKind (assign us e)
    → NormalKind (assign us f)
assign-value no_exprs e f g n = n
assign-value (exprs u us) e f g n = (n.0, g n.1)

params-kept : (ps : List Text) (ds es : Exprs) (c : Bool) → KeptAll ds es → NormalParams ps ds c
    → NormalParams ps es c
params-kept [] ds es c h n = (h.defaults n.0, n.1)
params-kept (x ∷ xs) ds es c h n =
    (subst (λ z. z ≤ suc (length xs)) h.counted n.0, h.each n.1)

ends-rest : (w n : Bool) (r s : Stmts) (semicolon : Bool) → begins_simple r ≡ begins_simple s
    → EndsLine w (record { semicolon = semicolon; newline = n }) r
    → EndsLine w (record { semicolon = semicolon; newline = n }) s
ends-rest false n r s m p h = h
ends-rest true true r s m p h = tt
ends-rest true false r s m p h = (h.0, sym p ∙ h.1)

module _ (l : ℕ) where
  kept : (m : ℕ) (e f : Expr) → Here l Alike m e f → Normal e → Normal f
  kept m e f (inl p) n = subst Normal p n
  kept m e f (inr h) n = h.1.kept.normal n

  one : (m : ℕ) (e f : Expr) → Here l Alike m e f → NormalExpr e → NormalExpr f
  one m e f (inl p) n = subst NormalExpr p n
  one m e f (inr h) n =
      (subst (λ q. rank LExpr ≤ rank q) h.1.kept.level n.0, h.1.kept.normal n.1)

  target : (m : ℕ) (e f : Expr) → Here l Alike m e f → is_target e ≡ true → is_target f ≡ true
  target m e f (inl p) n = subst (λ z. is_target z ≡ true) p n
  target m e f (inr h) n = sym h.1.kept.target ∙ n

  place : (m : ℕ) (e f : Expr) → Here l Alike m e f → is_place e ≡ true → is_place f ≡ true
  place m e f (inl p) n = subst (λ z. is_place z ≡ true) p n
  place m e f (inr h) n = sym h.1.kept.place ∙ n

  loose : (m : ℕ) (e f : Option Expr) → Here l AlikeMaybe m e f → IsOption Normal e
      → IsOption Normal f
  loose m e f (inl p) n = subst (IsOption Normal) p n
  loose m e f (inr h) n = h.1.kept.loose n

  tight : (m : ℕ) (e f : Option Expr) → Here l AlikeMaybe m e f → IsOption NormalExpr e
      → IsOption NormalExpr f
  tight m e f (inl p) n = subst (IsOption NormalExpr) p n
  tight m e f (inr h) n = h.1.kept.tight n

  clause-head : (m : ℕ) (e f : Option Expr) (x : Option Text) → Here l AlikeMaybe m e f
      → NormalClauseHead e x → NormalClauseHead f x
  clause-head m e f x (inl p) n = subst (λ z. NormalClauseHead z x) p n
  clause-head m e f x (inr h) n = h.1.kept.clause x n

  assigned : (m : ℕ) (ts us : Exprs) (e : Expr) → Here l AlikeAll m ts us
      → NormalKind (assign ts e) → NormalKind (assign us e)
  assigned m ts us e (inl p) n = subst (λ z. NormalKind (assign z e)) p n
  assigned m ts us e (inr h) n = h.1.kept.assigns e n

  params : (m : ℕ) (ps : List Text) (ds es : Exprs) (c : Bool) → Here l AlikeAll m ds es
      → NormalParams ps ds c → NormalParams ps es c
  params m ps ds es c (inl p) n = subst (λ z. NormalParams ps z c) p n
  params m ps ds es c (inr h) n = params-kept ps ds es c h.1.kept n

  -- ---- where statements end

  simple-same : (m : ℕ) (k j : StmtKind) → Kinds l m k j → is_simple k ≡ is_simple j
  simple-same m (expr e) (expr f) h = refl
  simple-same m (assign ts e) (assign us f) h = refl
  simple-same m (aug_assign t op e) (aug_assign u oq f) h = refl
  simple-same m pass pass h = refl
  simple-same m break break h = refl
  simple-same m continue continue h = refl
  simple-same m (return e) (return f) h = refl
  simple-same m (raise e) (raise f) h = refl
  simple-same m (assert e w) (assert f v) h = refl
  simple-same m (global xs) (global ys) h = refl
  simple-same m (import names) (import others) h = refl
  simple-same m (from x names) (from y others) h = refl
  simple-same m (if' us o) (if' bs q) h = refl
  simple-same m (while e s o) (while f t q) h = refl
  simple-same m (for x e s o) (for y f t q) h = refl
  simple-same m (try s cs o fin) (try t ds q gin) h = refl
  simple-same m (def x ps ds c s) (def y qs es d t) h = refl
  simple-same m (match e a cs) (match f b ds) h = refl
  simple-same m k j h = absurd h

  begins-same : (a b : Stmts) → Rows l a b → begins_simple a ≡ begins_simple b
  begins-same no_stmts no_stmts h = refl
  begins-same (stmt f a k e r) (stmt g b j x s) h = simple-same f k j h.1
  begins-same a b h = absurd h

  pub rows-end : (a b : Stmts) → Rows l a b → EndLines a → EndLines b
  rows-end no_stmts no_stmts h n = tt
  rows-end (stmt f a k e r) (stmt g b j x s) h n = (
    subst (λ z. EndsLine (is_simple j) z s) h.3
        (ends-rest (is_simple j) e.newline r s e.semicolon (begins-same r s h.2)
        (subst (λ z. EndsLine z e r) (simple-same f k j h.1) n.0)),
    rows-end r s h.2 n.1,
  )
  rows-end a b h n = absurd h

  rows-share : (a b : Stmts) → Rows l a b → ShareLine a → ShareLine b
  rows-share no_stmts no_stmts h n = n
  rows-share (stmt f a k e no_stmts) (stmt g b j x no_stmts) h n =
      (sym (simple-same f k j h.1) ∙ n.0, subst (λ z. z.newline ≡ true) h.3 n.1)
  rows-share (stmt f a k e (stmt c d i y r)) (stmt g b j x (stmt u v w z s)) h n = (
    sym (simple-same f k j h.1) ∙ n.0,
    subst (λ q. q.newline ≡ false) h.3 n.1,
    subst (λ q. q.semicolon ≡ true) h.3 n.2,
    rows-share (stmt c d i y r) (stmt u v w z s) h.2 n.3,
  )
  rows-share (stmt f a k e no_stmts) (stmt g b j x (stmt u v w z s)) h n = absurd h.2
  rows-share (stmt f a k e (stmt c d i y r)) (stmt g b j x no_stmts) h n = absurd h.2
  rows-share a b h n = absurd h

  -- ---- statements

  no-else : (o q : OptSuite) → Opts l o q → o ≡ no_suite → q ≡ no_suite
  no-else no_suite no_suite h p = refl
  no-else (has_suite s) (has_suite t) h p = absurd cc
  no-else o q h p = absurd h

  there : (o q : OptSuite) → Opts l o q → IsSuite o → IsSuite q
  there no_suite no_suite h n = n
  there (has_suite s) (has_suite t) h n = tt
  there o q h n = absurd h

  tried : (cs ds : Clauses) (o q fin gin : OptSuite) → ClausesOf l cs ds → Opts l o q
      → Opts l fin gin → NormalTry cs o fin → NormalTry ds q gin
  tried no_clauses no_clauses o q fin gin h i j n = (no-else o q i n.0, there fin gin j n.1)
  tried (clause e x s r) (clause f y t p) o q fin gin h i j n = tt
  tried cs ds o q fin gin h i j n = absurd h

  mutual
    pub rows-normal : (a b : Stmts) → Rows l a b → NormalStmts a → NormalStmts b
    rows-normal no_stmts no_stmts h n = tt
    rows-normal (stmt f a k e r) (stmt g b j x s) h n =
        (kinds-normal f k j h.1 n.0, rows-normal r s h.2 n.1)
    rows-normal a b h n = absurd h

    kinds-normal : (m : ℕ) (k j : StmtKind) → Kinds l m k j → NormalKind k → NormalKind j
    kinds-normal m (expr e) (expr f) h n = kept m e f h n
    kinds-normal m (assign ts e) (assign us f) h n =
        assign-value us e f (kept m e f h.1) (assigned m ts us e h.0 n)
    kinds-normal m (aug_assign t op e) (aug_assign u oq f) h n =
        (kept m t u h.0 n.0, place m t u h.0 n.1, kept m e f h.2 n.2)
    kinds-normal m pass pass h n = tt
    kinds-normal m break break h n = tt
    kinds-normal m continue continue h n = tt
    kinds-normal m (return e) (return f) h n = loose m e f h n
    kinds-normal m (raise e) (raise f) h n = tight m e f h n
    kinds-normal m (assert e w) (assert f v) h n = (one m e f h.0 n.0, tight m w v h.1 n.1)
    kinds-normal m (global xs) (global ys) h n = subst IsSomething h n
    kinds-normal m (import names) (import others) h n = subst AreSome h n
    kinds-normal m (from x names) (from y others) h n = subst AreSome h.1 n
    kinds-normal m (if' no_arms o) (if' bs q) h n = absurd n
    kinds-normal m (if' (arm e s r) o) (if' no_arms q) h n = absurd h.0
    kinds-normal m (if' (arm e s r) o) (if' (arm f t p) q) h n =
        (arms-normal (arm e s r) (arm f t p) h.0 n.0, opts-normal o q h.1 n.1)
    kinds-normal m (while e s o) (while f t q) h n =
        (one m e f h.0 n.0, suites-normal s t h.1 n.1, opts-normal o q h.2 n.2)
    kinds-normal m (for x e s o) (for y f t q) h n = (
      kept m x y h.0 n.0,
      target m x y h.0 n.1,
      kept m e f h.1 n.2,
      suites-normal s t h.2 n.3,
      opts-normal o q h.3 n.4,
    )
    kinds-normal m (try s cs o fin) (try t ds q gin) h n = (
      tried cs ds o q fin gin h.1 h.2 h.3 n.0,
      suites-normal s t h.0 n.1,
      clauses-normal cs ds h.1 n.2,
      opts-normal o q h.2 n.3,
      opts-normal fin gin h.3 n.4,
    )
    kinds-normal m (def x ps ds c s) (def y qs es d t) h n = (
      subst (λ z. NormalParams qs es z) h.3
          (params m qs ds es c h.2 (subst (λ z. NormalParams z ds c) h.1 n.0)),
      suites-normal s t h.4 n.1,
    )
    kinds-normal m (match e a no_cases) (match f b ds) h n = absurd n
    kinds-normal m (match e a (case p g s r)) (match f b no_cases) h n = absurd h.2
    kinds-normal m (match e a (case p g s r)) (match f b (case q w t c)) h n =
        (kept m e f h.0 n.0, cases-normal (case p g s r) (case q w t c) h.2 n.1)
    kinds-normal m k j h n = absurd h

    suites-normal : (s t : Suite) → Suites l s t → NormalSuite s → NormalSuite t
    suites-normal (suite f a i no_stmts) t h n = absurd n
    suites-normal (suite f a i (stmt u v k e r)) (suite g c j no_stmts) h n = absurd h.1
    suites-normal (suite f a true (stmt u v k e r)) (suite g c true (stmt w x z y s)) h n = (
      rows-share (stmt u v k e r) (stmt w x z y s) h.1 n.0,
      rows-normal (stmt u v k e r) (stmt w x z y s) h.1 n.1,
    )
    suites-normal (suite f a false (stmt u v k e r)) (suite g c false (stmt w x z y s)) h n = (
      rows-end (stmt u v k e r) (stmt w x z y s) h.1 n.0,
      rows-normal (stmt u v k e r) (stmt w x z y s) h.1 n.1,
    )
    suites-normal (suite f a true (stmt u v k e r)) (suite g c false (stmt w x z y s)) h n =
        let p = h.2 in absurd cc
    suites-normal (suite f a false (stmt u v k e r)) (suite g c true (stmt w x z y s)) h n =
        let p = h.2 in absurd cc

    opts-normal : (o q : OptSuite) → Opts l o q → NormalOpt o → NormalOpt q
    opts-normal no_suite no_suite h n = tt
    opts-normal (has_suite s) (has_suite t) h n = suites-normal s t h n
    opts-normal o q h n = absurd h

    arms-normal : (us bs : Arms) → ArmsOf l us bs → NormalArms us → NormalArms bs
    arms-normal no_arms no_arms h n = tt
    arms-normal (arm e s r) (arm f t q) h n =
        (one (header_line s) e f h.0 n.0, suites-normal s t h.1 n.1, arms-normal r q h.2 n.2)
    arms-normal us bs h n = absurd h

    clauses-normal : (cs ds : Clauses) → ClausesOf l cs ds → NormalClauses cs → NormalClauses ds
    clauses-normal no_clauses no_clauses h n = tt
    clauses-normal (clause e x s r) (clause f y t q) h n = (
      subst (λ z. NormalClauseHead f z) h.1 (clause-head (header_line s) e f x h.0 n.0),
      suites-normal s t h.2 n.1,
      clauses-normal r q h.3 n.2,
    )
    clauses-normal cs ds h n = absurd h

    cases-normal : (cs ds : Cases) → CasesOf l cs ds → NormalCases cs → NormalCases ds
    cases-normal no_cases no_cases h n = tt
    cases-normal (case p g s r) (case q w t c) h n = (
      subst NormalPattern h.0 n.0,
      tight (header_line s) g w h.1 n.1,
      suites-normal s t h.2 n.2,
      cases-normal r c h.3 n.3,
    )
    cases-normal cs ds h n = absurd h

pub mutants_keep_forms : MutantsKeepForms
mutants_keep_forms a ends normal =
    All-from_recursion (λ x. EndLines x.1 × NormalStmts x.1) (module_mutants a)
    (all-weaker (λ x. Rows x.0.0 a x.1) (λ x. EndLines x.1 × NormalStmts x.1)
    (λ x h. (rows-end x.0.0 a x.1 h ends, rows-normal x.0.0 a x.1 h normal)) (module_mutants a)
    (rows-mutants a))
