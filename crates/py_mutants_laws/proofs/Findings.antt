-- The same is found in versions: faults of scope, and names of functions.
use Rattle.std.proofs.Common.{◌≡◌, ℕ, not, ◌&&◌, List, [], ◌∷◌, ◌++◌, Option, Some, None, refl, sym, ap, ◌∙◌, inl, inr}
use Rattle.std.specs.Prelude.{is_none, is_some}
use Rattle.std.proofs.lemmas.List.Elements.{All-from_recursion}
use Rattle.py_syntax.specs.Tree.{Text, Expr}
use Rattle.py_syntax.specs.Tree.{Stmts, no_stmts, stmt, Suite, suite, OptSuite, no_suite, has_suite, Arms, no_arms, arm, Clauses, no_clauses, clause, Cases, no_cases, case, StmtKind, expr, assign, aug_assign, pass, break, continue, return, raise, assert, global, import, from, if', while, for, try, def, match}
use Rattle.py_syntax.specs.Names.{distinct, assigned_in, declared_in}
use Rattle.py_scope.specs.declared.error.ScopeError.TheVariants.{BreakOutside, ReturnOutside, NestedFunction, EarlyIrrefutable, TwiceNamed}
use Rattle.py_scope.specs.Patterns.{has_repeats}
use Rattle.py_scope.specs.Faults.{Findings, ◌&◌, blame, blame_case, in_loop, in_clause, in_finally, module_place, function_place, late_globals, in_function, has_clause, has_case, findings, kind_findings, suite_findings, opt_findings, arms_findings, clauses_findings, cases_findings, all_findings, faults_of, functions_of}
use Rattle.py_changes.specs.Mutants.{module_mutants}
use Rattle.py_changes.proofs.Lists.{all-weaker}
use Rattle.py_changes.proofs.SameLaws.{two}
use Rattle.py_mutants_laws.specs.Sound.{MutantsAreWellFormed}
use Rattle.py_mutants_laws.proofs.Agreeing.{rows-bind}
use Rattle.py_mutants_laws.proofs.Mutants.{rows-mutants}
use Rattle.py_mutants_laws.proofs.Seen.{rows-see}
use Rattle.py_mutants_laws.proofs.Versions.{AlikeMaybe, Here, Rows, Kinds, Suites, Opts, ArmsOf, ClausesOf, CasesOf}

-- findings that are the same, one after another
joined : {f g h k : Findings} → f ≡ g → h ≡ k → (f & h) ≡ (g & k)
joined p q = two (λ x y. x & y) p q

some-there : (e f : Option Expr) → is_none e ≡ is_none f → is_some e ≡ is_some f
some-there None None p = refl
some-there (Some e) (Some f) p = refl
some-there None (Some f) p = absurd cc
some-there (Some e) None p = absurd cc

module _ (l : ℕ) where
  maybe-there : (m : ℕ) (e f : Option Expr) → Here l AlikeMaybe m e f → is_none e ≡ is_none f
  maybe-there m e f (inl p) = ap is_none p
  maybe-there m e f (inr h) = h.1.names.there

  has-clause : (cs ds : Clauses) → ClausesOf l cs ds → has_clause cs ≡ has_clause ds
  has-clause no_clauses no_clauses h = refl
  has-clause (clause e x s r) (clause f y t q) h = refl
  has-clause cs ds h = absurd h

  has-case : (cs ds : Cases) → CasesOf l cs ds → has_case cs ≡ has_case ds
  has-case no_cases no_cases h = refl
  has-case (case p g s r) (case q w t c) h = refl
  has-case cs ds h = absurd h

  function-same : (ps qs : List Text) (b d : Stmts) → ps ≡ qs → Rows l b d
      → in_function ps b ≡ in_function qs d
  function-same ps qs b d p h =
      ap (λ xs. in_function xs b) p
      ∙ two
      (λ os bs. record {
        faults = late_globals (distinct qs) os;
        functions =
            record {
              assigned = distinct (qs ++ assigned_in bs);
              globals = distinct (declared_in bs);
            } ∷ [];
      }) (rows-see l b d h) (rows-bind l b d h)

  mutual
    pub rows-find : (at : _) (a b : Stmts) → Rows l a b → findings at a ≡ findings at b
    rows-find at no_stmts no_stmts h = refl
    rows-find at (stmt f a k e r) (stmt g b j x s) h =
        joined (kinds-find at f g k j h.0 h.1) (rows-find at r s h.2)
    rows-find at a b h = absurd h

    kinds-find : (at : _) (m n : ℕ) (k j : StmtKind) → m ≡ n → Kinds l m k j
        → kind_findings at m k ≡ kind_findings at n j
    kinds-find at m n (expr e) (expr f) p h = refl
    kinds-find at m n (assign ts e) (assign us f) p h = refl
    kinds-find at m n (aug_assign t op e) (aug_assign u oq f) p h = refl
    kinds-find at m n pass pass p h = refl
    kinds-find at m n break break p h = ap (λ x. blame (not at.looped) (BreakOutside x)) p
    kinds-find at m n continue continue p h = ap (λ x. blame (not at.looped) (BreakOutside x)) p
    kinds-find at m n (return e) (return f) p h =
        ap (λ x. blame (not at.function) (ReturnOutside x)) p
    kinds-find at m n (raise e) (raise f) p h =
        two (λ b x. blame (b && not at.handled) (ReturnOutside x)) (maybe-there m e f h) p
    kinds-find at m n (assert e w) (assert f v) p h = refl
    kinds-find at m n (global xs) (global ys) p h = refl
    kinds-find at m n (import names) (import others) p h = refl
    kinds-find at m n (from x names) (from y others) p h = refl
    kinds-find at m n (if' us o) (if' bs q) p h =
        joined (arms-find at us bs h.0) (opts-find at o q h.1)
    kinds-find at m n (while e s o) (while f t q) p h =
        joined (suites-find (in_loop at) s t h.1) (opts-find at o q h.2)
    kinds-find at m n (for x e s o) (for y f t q) p h =
        joined (suites-find (in_loop at) s t h.2) (opts-find at o q h.3)
    kinds-find at m n (try s cs o fin) (try t ds q gin) p h =
        joined (suites-find at s t h.0)
        (joined (clauses-find at cs ds h.1)
        (joined (opts-find at o q h.2) (opts-find (in_finally at) fin gin h.3)))
    kinds-find at m n (def x ps ds c (suite f a i b)) (def y qs es d (suite g z w u)) p h =
        joined (ap (λ v. blame at.function (NestedFunction v)) p)
        (joined (two (λ v xs. blame (has_repeats xs) (TwiceNamed v)) p h.1)
        (joined (function-same ps qs b u h.1 h.4.1) (rows-find function_place b u h.4.1)))
    kinds-find at m n (match e a cs) (match f b ds) p h = cases-find at cs ds h.2
    kinds-find at m n k j p h = absurd h

    suites-find : (at : _) (s t : Suite) → Suites l s t
        → suite_findings at s ≡ suite_findings at t
    suites-find at (suite f a i b) (suite g c j d) h = rows-find at b d h.1

    opts-find : (at : _) (o q : OptSuite) → Opts l o q → opt_findings at o ≡ opt_findings at q
    opts-find at no_suite no_suite h = refl
    opts-find at (has_suite s) (has_suite t) h = suites-find at s t h
    opts-find at o q h = absurd h

    arms-find : (at : _) (us bs : Arms) → ArmsOf l us bs
        → arms_findings at us ≡ arms_findings at bs
    arms-find at no_arms no_arms h = refl
    arms-find at (arm e s r) (arm f t q) h =
        joined (suites-find at s t h.1) (arms-find at r q h.2)
    arms-find at us bs h = absurd h

    clauses-find : (at : _) (cs ds : Clauses) → ClausesOf l cs ds
        → clauses_findings at cs ≡ clauses_findings at ds
    clauses-find at no_clauses no_clauses h = refl
    clauses-find at (clause e x (suite f a i b) r) (clause d y (suite g c j u) q) h =
        joined
        (ap (λ v. blame (is_none e && has_clause r) (EarlyIrrefutable v)) h.2.0
        ∙ two (λ v w. blame (v && w) (EarlyIrrefutable g)) (maybe-there f e d h.0)
        (has-clause r q h.3))
        (joined (rows-find (in_clause at) b u h.2.1) (clauses-find at r q h.3))
    clauses-find at cs ds h = absurd h

    cases-find : (at : _) (cs ds : Cases) → CasesOf l cs ds
        → cases_findings at cs ≡ cases_findings at ds
    cases-find at no_cases no_cases h = refl
    cases-find at (case p e (suite f a i b) r) (case q d (suite g c j u) s) h =
        joined
        (two (λ v w. blame_case v w (is_some e) (has_case r)) h.2.0 h.0
        ∙ two (λ v w. blame_case g q v w) (some-there e d (maybe-there f e d h.1))
        (has-case r s h.3))
        (joined (rows-find at b u h.2.1) (cases-find at r s h.3))
    cases-find at cs ds h = absurd h

  pub all-found : (a b : Stmts) → Rows l a b → all_findings a ≡ all_findings b
  all-found a b h =
      joined (ap (λ os. record { faults = late_globals [] os; functions = [] })
      (rows-see l a b h))
      (rows-find module_place a b h)

pub mutants_are_well_formed : MutantsAreWellFormed
mutants_are_well_formed a =
    All-from_recursion (λ x. (faults_of x.1 ≡ faults_of a) × (functions_of x.1 ≡ functions_of a))
    (module_mutants a)
    (all-weaker (λ x. Rows x.0.0 a x.1)
    (λ x. (faults_of x.1 ≡ faults_of a) × (functions_of x.1 ≡ functions_of a))
    (λ x h. (
      ap (λ f. f.faults) (sym (all-found x.0.0 a x.1 h)),
      ap (λ f. f.functions) (sym (all-found x.0.0 a x.1 h)),
    )) (module_mutants a) (rows-mutants a))
