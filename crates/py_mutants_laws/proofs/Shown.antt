-- Each mutant changes its line: of statements, where no `def` stands in a function.
use Rattle.std.proofs.Common.{◌≡◌, ℕ, false, ◌&&◌, [], ◌∷◌, ◌++◌, refl, inl, inr}
use Rattle.py_text.specs.Comparison.{is_same_text}
use Rattle.py_text.proofs.TestLaws.{both_true}
use Rattle.py_syntax.specs.Functions.{defining, own_function}
use Rattle.py_syntax.specs.Gathering.{gather, gather_kind, gather_suite, gather_opt, gather_arms, gather_clauses, gather_cases}
use Rattle.py_syntax.specs.Tree.{Stmts, no_stmts, stmt, Suite, suite, OptSuite, no_suite, has_suite, Arms, no_arms, arm, Clauses, no_clauses, clause, Cases, no_cases, case, StmtKind, expr, assign, aug_assign, pass, break, continue, return, raise, assert, global, import, from, if', while, for, try, def, match}
use Rattle.py_changes.specs.Same.{same_bool, same_operator, same_option, same_expr, same_exprs, same_maybe, same_pattern}
use Rattle.py_changes.specs.Changed.{fits_suite, fits_opt, fits_arms, fits_clauses, same_simple, changed_suite, changed_opt, changed_arms, changed_clauses, changed_cases, changed_header, changed_stmts}
use Rattle.py_changes.specs.Mutants.{around, at_mark, augmented_change, expr_mutants, exprs_mutants, maybe_mutants, stmts_mutants, kind_mutants, suite_mutants, opt_suite_mutants, arms_mutants, clauses_mutants, cases_mutants}
use Rattle.py_changes.specs.Regular.{all_statements}
use Rattle.py_changes.proofs.Compared.{way}
use Rattle.py_changes.proofs.Lists.{all-left, all-right}
use Rattle.py_changes.proofs.MutantLaws.{expr-differs, exprs-differ}
use Rattle.py_mutants_laws.proofs.Versions.{Rows, Suites, Opts, ArmsOf, ClausesOf, CasesOf}
use Rattle.py_mutants_laws.proofs.Itself.{rows-self, kinds-self, suites-self, opts-self, arms-self, clauses-self, cases-self}
use Rattle.py_mutants_laws.proofs.Agreeing.{heads-agree}
use Rattle.py_mutants_laws.proofs.Fitting.{Tested, HaveTests, suites-fit, opts-fit, arms-fit, clauses-fit, cases-fit}
use Rattle.py_mutants_laws.proofs.Functions.{rows-define, kinds-define, suites-define, opts-define, arms-define, clauses-define}
use Rattle.py_mutants_laws.proofs.Mutants.{Marks, marks-joined, marks-around, marks-at}
use Rattle.py_mutants_laws.proofs.Some.{some-left, some-right, parts-some, where-some, left-false, right-false, header-some, functions-left, functions-right, operator-differs, maybe-differs}
use Rattle.py_mutants_laws.proofs.ShownBodies.{Plain, ArePlain, none-plain, body-shown}
use Rattle.py_mutants_laws.proofs.ShownParts.{ShowsRows, ShowsSuites, ShowsOpts, ShowsArmsOf, ShowsClausesOf, ShowsCasesOf, ShowsKinds, ShowsDef, FromKind, with-rows, with-suites, with-opts, with-arms, with-clauses, with-cases}

mutual
  pub rows-show : (a : Stmts) → HaveTests (gather all_statements a) → ArePlain (gather defining a)
      → Marks (λ l b. ShowsRows a b) (stmts_mutants a)
  rows-show no_stmts t p = tt
  rows-show (stmt f a k e r) t p =
      let own = gather_kind all_statements ((f, k) ∷ []) k in
      let gk = gather_kind defining (own_function f k) k in
      let gr = gather defining r in
      marks-joined (λ l b. ShowsRows (stmt f a k e r) b) (around (λ j. stmt f a j e r)
      (kind_mutants f k)) _ (marks-around (λ l b. ShowsRows (stmt f a k e r) b)
      (λ j. stmt f a j e r) (λ l j. ShowsKinds f k j) (λ l j h. way h (λ x. inl (some-left _ _ x))
      (λ x. inr (functions-left gk (gather_kind defining (own_function f j) j) gr gr x)))
      (kind_mutants f k) (kinds-show f k (all-left Tested own (gather all_statements r) t)
      (all-left Plain gk gr p))) (marks-around (λ l b. ShowsRows (stmt f a k e r) b)
      (λ s. stmt f a k e s) (λ l s. ShowsRows r s) (λ l s h. way h (λ x. inl (some-right _ _ x))
      (λ x. inr (functions-right l gk gk gr (gather defining s) (kinds-define l f f k k refl
      (kinds-self l f k)) x))) (stmts_mutants r) (rows-show r (all-right Tested own
      (gather all_statements r) t) (all-right Plain gk gr p)))

  kinds-show : (m : ℕ) (k : StmtKind) → HaveTests (gather_kind all_statements ((m, k) ∷ []) k)
      → ArePlain (gather_kind defining (own_function m k) k) → Marks (λ l j. ShowsKinds m k j)
      (kind_mutants m k)
  kinds-show m (expr e) t p =
      marks-at (FromKind m (expr e)) m (λ z. expr z) (λ z. same_expr e z ≡ false) (λ z h. inl
      (where-some (same_simple (expr e) (expr z)) _ h refl)) (expr_mutants e) (expr-differs e)
  kinds-show m (assign ts e) t p =
      marks-joined (FromKind m (assign ts e)) (around (λ z. assign z e) (at_mark m
      (exprs_mutants ts))) _ (marks-at (FromKind m (assign ts e)) m (λ z. assign z e)
      (λ z. same_exprs ts z ≡ false) (λ z h. inl (where-some (same_simple (assign ts e)
      (assign z e)) _ (left-false (same_exprs ts z) (same_expr e e) h) refl)) (exprs_mutants ts)
      (exprs-differ ts)) (marks-at (FromKind m (assign ts e)) m (λ z. assign ts z)
      (λ z. same_expr e z ≡ false) (λ z h. inl (where-some (same_simple (assign ts e)
      (assign ts z)) _ (right-false (same_exprs ts ts) (same_expr e z) h) refl)) (expr_mutants e)
      (expr-differs e))
  kinds-show m (aug_assign u op e) t p =
      marks-joined (FromKind m (aug_assign u op e)) (around (λ z. aug_assign z op e) (at_mark m
      (expr_mutants u))) _ (marks-at (FromKind m (aug_assign u op e)) m (λ z. aug_assign z op e)
      (λ z. same_expr u z ≡ false) (λ z h. inl (where-some (same_simple (aug_assign u op e)
      (aug_assign z op e)) _ (left-false (same_expr u z) (same_operator op op && (same_expr e e))
      h) refl)) (expr_mutants u) (expr-differs u)) (marks-joined (FromKind m (aug_assign u op e))
      (around (λ z. aug_assign u z e) (at_mark m (augmented_change op))) _ (marks-at (FromKind m
      (aug_assign u op e)) m (λ z. aug_assign u z e) (λ z. same_operator op z ≡ false) (λ z h. inl
      (where-some (same_simple (aug_assign u op e) (aug_assign u z e)) _ (right-false
      (same_expr u u) (same_operator op z && (same_expr e e)) (left-false (same_operator op z)
      (same_expr e e) h)) refl)) (augmented_change op) ((operator-differs op, tt))) (marks-at
      (FromKind m (aug_assign u op e)) m (λ z. aug_assign u op z) (λ z. same_expr e z ≡ false)
      (λ z h. inl (where-some (same_simple (aug_assign u op e) (aug_assign u op z)) _ (right-false
      (same_expr u u) (same_operator op op && (same_expr e z)) (right-false (same_operator op op)
      (same_expr e z) h)) refl)) (expr_mutants e) (expr-differs e)))
  kinds-show m pass t p = tt
  kinds-show m break t p = tt
  kinds-show m continue t p = tt
  kinds-show m (return e) t p =
      marks-at (FromKind m (return e)) m (λ z. return z) (λ z. same_maybe e z ≡ false) (λ z h. inl
      (where-some (same_simple (return e) (return z)) _ h refl)) (maybe_mutants e)
      (maybe-differs e)
  kinds-show m (raise e) t p =
      marks-at (FromKind m (raise e)) m (λ z. raise z) (λ z. same_maybe e z ≡ false) (λ z h. inl
      (where-some (same_simple (raise e) (raise z)) _ h refl)) (maybe_mutants e) (maybe-differs e)
  kinds-show m (assert e w) t p =
      marks-joined (FromKind m (assert e w)) (around (λ z. assert z w) (at_mark m
      (expr_mutants e))) _ (marks-at (FromKind m (assert e w)) m (λ z. assert z w)
      (λ z. same_expr e z ≡ false) (λ z h. inl (where-some (same_simple (assert e w) (assert z w))
      _ (left-false (same_expr e z) (same_maybe w w) h) refl)) (expr_mutants e) (expr-differs e))
      (marks-at (FromKind m (assert e w)) m (λ z. assert e z) (λ z. same_maybe w z ≡ false)
      (λ z h. inl (where-some (same_simple (assert e w) (assert e z)) _ (right-false
      (same_expr e e) (same_maybe w z) h) refl)) (maybe_mutants w) (maybe-differs w))
  kinds-show m (global xs) t p = tt
  kinds-show m (import names) t p = tt
  kinds-show m (from x names) t p = tt
  kinds-show m (if' us o) t p =
      let t0 = all-left Tested (gather_arms all_statements us) (gather_opt all_statements o)
      t.1 in
      let tr0 = all-right Tested (gather_arms all_statements us) (gather_opt all_statements o)
      t.1 in
      let p0 = all-left Plain (gather_arms defining us) (gather_opt defining o) p in
      let pr0 = all-right Plain (gather_arms defining us) (gather_opt defining o) p in
      marks-joined (FromKind m (if' us o)) (around (λ z. if' z o) (arms_mutants us)) _
      (marks-around (FromKind m (if' us o)) (λ z. if' z o)
      (λ l z. ArmsOf l us z × ShowsArmsOf us z) (λ l z h. way h.1 (λ x. inl (parts-some _ _ _
      (both_true (fits_arms us z) _ (arms-fit l us z h.0 t0) (opts-fit l o o (opts-self l o) tr0))
      (some-left (changed_arms us z).0 (changed_opt o o).0 x))) (λ x. inr (functions-left
      (gather_arms defining us) (gather_arms defining z) (gather_opt defining o)
      (gather_opt defining o) x))) (arms_mutants us) (with-arms us (arms-show us t0 p0)))
      (marks-around (FromKind m (if' us o)) (λ z. if' us z) (λ l z. Opts l o z × ShowsOpts o z)
      (λ l z h. way h.1 (λ x. inl (parts-some _ _ _ (both_true (fits_arms us us) _
      (arms-fit l us us (arms-self l us) t0) (opts-fit l o z h.0 tr0)) (some-right
      (changed_arms us us).0 (changed_opt o z).0 x))) (λ x. inr (functions-right l
      (gather_arms defining us) (gather_arms defining us) (gather_opt defining o)
      (gather_opt defining z) (arms-define l us us (arms-self l us)) x))) (opt_suite_mutants o)
      (with-opts o (opts-show o tr0 pr0)))
  kinds-show m (while e s o) t p =
      let t0 = all-left Tested (gather_suite all_statements s) (gather_opt all_statements o)
      t.1 in
      let tr0 = all-right Tested (gather_suite all_statements s) (gather_opt all_statements o)
      t.1 in
      let p0 = all-left Plain (gather_suite defining s) (gather_opt defining o) p in
      let pr0 = all-right Plain (gather_suite defining s) (gather_opt defining o) p in
      marks-joined (FromKind m (while e s o)) (around (λ z. while z s o) (at_mark m
      (expr_mutants e))) _ (marks-at (FromKind m (while e s o)) m (λ z. while z s o)
      (λ z. same_expr e z ≡ false) (λ z h. inl (parts-some _ _ _ (both_true (fits_suite s s) _
      (suites-fit 0 s s (suites-self 0 s) t0) (opts-fit 0 o o (opts-self 0 o) tr0)) (some-left
      (changed_header (same_expr e z) m m).0 ((changed_suite s s).0 ++ (changed_opt o o).0)
      (header-some (same_expr e z) m m h)))) (expr_mutants e) (expr-differs e)) (marks-joined
      (FromKind m (while e s o)) (around (λ z. while e z o) (suite_mutants s)) _ (marks-around
      (FromKind m (while e s o)) (λ z. while e z o) (λ l z. Suites l s z × ShowsSuites s z)
      (λ l z h. way h.1 (λ x. inl (parts-some _ _ _ (both_true (fits_suite s z) _
      (suites-fit l s z h.0 t0) (opts-fit l o o (opts-self l o) tr0)) (some-right (changed_header
      (same_expr e e) m m).0 ((changed_suite s z).0 ++ (changed_opt o o).0) (some-left
      (changed_suite s z).0 (changed_opt o o).0 x)))) (λ x. inr (functions-left
      (gather_suite defining s) (gather_suite defining z) (gather_opt defining o)
      (gather_opt defining o) x))) (suite_mutants s) (with-suites s (suites-show s t0 p0)))
      (marks-around (FromKind m (while e s o)) (λ z. while e s z)
      (λ l z. Opts l o z × ShowsOpts o z) (λ l z h. way h.1 (λ x. inl (parts-some _ _ _ (both_true
      (fits_suite s s) _ (suites-fit l s s (suites-self l s) t0) (opts-fit l o z h.0 tr0))
      (some-right (changed_header (same_expr e e) m m).0 ((changed_suite s s).0 ++
      (changed_opt o z).0) (some-right (changed_suite s s).0 (changed_opt o z).0 x)))) (λ x. inr
      (functions-right l (gather_suite defining s) (gather_suite defining s)
      (gather_opt defining o) (gather_opt defining z) (suites-define l s s (suites-self l s)) x)))
      (opt_suite_mutants o) (with-opts o (opts-show o tr0 pr0))))
  kinds-show m (for y e s o) t p =
      let t0 = all-left Tested (gather_suite all_statements s) (gather_opt all_statements o)
      t.1 in
      let tr0 = all-right Tested (gather_suite all_statements s) (gather_opt all_statements o)
      t.1 in
      let p0 = all-left Plain (gather_suite defining s) (gather_opt defining o) p in
      let pr0 = all-right Plain (gather_suite defining s) (gather_opt defining o) p in
      marks-joined (FromKind m (for y e s o)) (around (λ z. for z e s o) (at_mark m
      (expr_mutants y))) _ (marks-at (FromKind m (for y e s o)) m (λ z. for z e s o)
      (λ z. same_expr y z ≡ false) (λ z h. inl (parts-some _ _ _ (both_true (fits_suite s s) _
      (suites-fit 0 s s (suites-self 0 s) t0) (opts-fit 0 o o (opts-self 0 o) tr0)) (some-left
      (changed_header (same_expr y z && same_expr e e) m m).0 ((changed_suite s s).0 ++
      (changed_opt o o).0) (header-some (same_expr y z && same_expr e e) m m (left-false
      (same_expr y z) (same_expr e e) h))))) (expr_mutants y) (expr-differs y)) (marks-joined
      (FromKind m (for y e s o)) (around (λ z. for y z s o) (at_mark m (expr_mutants e))) _
      (marks-at (FromKind m (for y e s o)) m (λ z. for y z s o) (λ z. same_expr e z ≡ false)
      (λ z h. inl (parts-some _ _ _ (both_true (fits_suite s s) _ (suites-fit 0 s s
      (suites-self 0 s) t0) (opts-fit 0 o o (opts-self 0 o) tr0)) (some-left (changed_header
      (same_expr y y && same_expr e z) m m).0 ((changed_suite s s).0 ++ (changed_opt o o).0)
      (header-some (same_expr y y && same_expr e z) m m (right-false (same_expr y y)
      (same_expr e z) h))))) (expr_mutants e) (expr-differs e)) (marks-joined (FromKind m
      (for y e s o)) (around (λ z. for y e z o) (suite_mutants s)) _ (marks-around (FromKind m
      (for y e s o)) (λ z. for y e z o) (λ l z. Suites l s z × ShowsSuites s z) (λ l z h. way h.1
      (λ x. inl (parts-some _ _ _ (both_true (fits_suite s z) _ (suites-fit l s z h.0 t0)
      (opts-fit l o o (opts-self l o) tr0)) (some-right (changed_header
      (same_expr y y && same_expr e e) m m).0 ((changed_suite s z).0 ++ (changed_opt o o).0)
      (some-left (changed_suite s z).0 (changed_opt o o).0 x)))) (λ x. inr (functions-left
      (gather_suite defining s) (gather_suite defining z) (gather_opt defining o)
      (gather_opt defining o) x))) (suite_mutants s) (with-suites s (suites-show s t0 p0)))
      (marks-around (FromKind m (for y e s o)) (λ z. for y e s z)
      (λ l z. Opts l o z × ShowsOpts o z) (λ l z h. way h.1 (λ x. inl (parts-some _ _ _ (both_true
      (fits_suite s s) _ (suites-fit l s s (suites-self l s) t0) (opts-fit l o z h.0 tr0))
      (some-right (changed_header (same_expr y y && same_expr e e) m m).0
      ((changed_suite s s).0 ++ (changed_opt o z).0) (some-right (changed_suite s s).0
      (changed_opt o z).0 x)))) (λ x. inr (functions-right l (gather_suite defining s)
      (gather_suite defining s) (gather_opt defining o) (gather_opt defining z)
      (suites-define l s s (suites-self l s)) x))) (opt_suite_mutants o) (with-opts o
      (opts-show o tr0 pr0)))))
  kinds-show m (try s cs o fin) t p =
      let t0 = all-left Tested (gather_suite all_statements s)
      (gather_clauses all_statements cs ++ (gather_opt all_statements o ++
      (gather_opt all_statements fin))) t.1 in
      let tr0 = all-right Tested (gather_suite all_statements s)
      (gather_clauses all_statements cs ++ (gather_opt all_statements o ++
      (gather_opt all_statements fin))) t.1 in
      let t1 = all-left Tested (gather_clauses all_statements cs) (gather_opt all_statements o ++
      (gather_opt all_statements fin)) tr0 in
      let tr1 = all-right Tested (gather_clauses all_statements cs)
      (gather_opt all_statements o ++ (gather_opt all_statements fin)) tr0 in
      let t2 = all-left Tested (gather_opt all_statements o) (gather_opt all_statements fin)
      tr1 in
      let tr2 = all-right Tested (gather_opt all_statements o) (gather_opt all_statements fin)
      tr1 in
      let p0 = all-left Plain (gather_suite defining s) (gather_clauses defining cs ++
      (gather_opt defining o ++ (gather_opt defining fin))) p in
      let pr0 = all-right Plain (gather_suite defining s) (gather_clauses defining cs ++
      (gather_opt defining o ++ (gather_opt defining fin))) p in
      let p1 = all-left Plain (gather_clauses defining cs) (gather_opt defining o ++
      (gather_opt defining fin)) pr0 in
      let pr1 = all-right Plain (gather_clauses defining cs) (gather_opt defining o ++
      (gather_opt defining fin)) pr0 in
      let p2 = all-left Plain (gather_opt defining o) (gather_opt defining fin) pr1 in
      let pr2 = all-right Plain (gather_opt defining o) (gather_opt defining fin) pr1 in
      marks-joined (FromKind m (try s cs o fin)) (around (λ z. try z cs o fin) (suite_mutants s))
      _ (marks-around (FromKind m (try s cs o fin)) (λ z. try z cs o fin)
      (λ l z. Suites l s z × ShowsSuites s z) (λ l z h. way h.1 (λ x. inl (parts-some _ _ _
      (both_true (fits_suite s z) _ (suites-fit l s z h.0 t0) (both_true (fits_clauses cs cs) _
      (clauses-fit l cs cs (clauses-self l cs) t1) (both_true (fits_opt o o) _ (opts-fit l o o
      (opts-self l o) t2) (opts-fit l fin fin (opts-self l fin) tr2)))) (some-left
      (changed_suite s z).0 ((changed_clauses cs cs).0 ++ ((changed_opt o o).0 ++
      (changed_opt fin fin).0)) x))) (λ x. inr (functions-left (gather_suite defining s)
      (gather_suite defining z) (gather_clauses defining cs ++ (gather_opt defining o ++
      (gather_opt defining fin))) (gather_clauses defining cs ++ (gather_opt defining o ++
      (gather_opt defining fin))) x))) (suite_mutants s) (with-suites s (suites-show s t0 p0)))
      (marks-joined (FromKind m (try s cs o fin)) (around (λ z. try s z o fin)
      (clauses_mutants cs)) _ (marks-around (FromKind m (try s cs o fin)) (λ z. try s z o fin)
      (λ l z. ClausesOf l cs z × ShowsClausesOf cs z) (λ l z h. way h.1 (λ x. inl
      (parts-some _ _ _ (both_true (fits_suite s s) _ (suites-fit l s s (suites-self l s) t0)
      (both_true (fits_clauses cs z) _ (clauses-fit l cs z h.0 t1) (both_true (fits_opt o o) _
      (opts-fit l o o (opts-self l o) t2) (opts-fit l fin fin (opts-self l fin) tr2))))
      (some-right (changed_suite s s).0 ((changed_clauses cs z).0 ++ ((changed_opt o o).0 ++
      (changed_opt fin fin).0)) (some-left (changed_clauses cs z).0 ((changed_opt o o).0 ++
      (changed_opt fin fin).0) x)))) (λ x. inr (functions-right l (gather_suite defining s)
      (gather_suite defining s) (gather_clauses defining cs ++ (gather_opt defining o ++
      (gather_opt defining fin))) (gather_clauses defining z ++ (gather_opt defining o ++
      (gather_opt defining fin))) (suites-define l s s (suites-self l s)) (functions-left
      (gather_clauses defining cs) (gather_clauses defining z) (gather_opt defining o ++
      (gather_opt defining fin)) (gather_opt defining o ++ (gather_opt defining fin)) x))))
      (clauses_mutants cs) (with-clauses cs (clauses-show cs t1 p1))) (marks-joined (FromKind m
      (try s cs o fin)) (around (λ z. try s cs z fin) (opt_suite_mutants o)) _ (marks-around
      (FromKind m (try s cs o fin)) (λ z. try s cs z fin) (λ l z. Opts l o z × ShowsOpts o z)
      (λ l z h. way h.1 (λ x. inl (parts-some _ _ _ (both_true (fits_suite s s) _
      (suites-fit l s s (suites-self l s) t0) (both_true (fits_clauses cs cs) _
      (clauses-fit l cs cs (clauses-self l cs) t1) (both_true (fits_opt o z) _
      (opts-fit l o z h.0 t2) (opts-fit l fin fin (opts-self l fin) tr2)))) (some-right
      (changed_suite s s).0 ((changed_clauses cs cs).0 ++ ((changed_opt o z).0 ++
      (changed_opt fin fin).0)) (some-right (changed_clauses cs cs).0 ((changed_opt o z).0 ++
      (changed_opt fin fin).0) (some-left (changed_opt o z).0 (changed_opt fin fin).0 x)))))
      (λ x. inr (functions-right l (gather_suite defining s) (gather_suite defining s)
      (gather_clauses defining cs ++ (gather_opt defining o ++ (gather_opt defining fin)))
      (gather_clauses defining cs ++ (gather_opt defining z ++ (gather_opt defining fin)))
      (suites-define l s s (suites-self l s)) (functions-right l (gather_clauses defining cs)
      (gather_clauses defining cs) (gather_opt defining o ++ (gather_opt defining fin))
      (gather_opt defining z ++ (gather_opt defining fin)) (clauses-define l cs cs
      (clauses-self l cs)) (functions-left (gather_opt defining o) (gather_opt defining z)
      (gather_opt defining fin) (gather_opt defining fin) x))))) (opt_suite_mutants o)
      (with-opts o (opts-show o t2 p2))) (marks-around (FromKind m (try s cs o fin))
      (λ z. try s cs o z) (λ l z. Opts l fin z × ShowsOpts fin z) (λ l z h. way h.1 (λ x. inl
      (parts-some _ _ _ (both_true (fits_suite s s) _ (suites-fit l s s (suites-self l s) t0)
      (both_true (fits_clauses cs cs) _ (clauses-fit l cs cs (clauses-self l cs) t1) (both_true
      (fits_opt o o) _ (opts-fit l o o (opts-self l o) t2) (opts-fit l fin z h.0 tr2))))
      (some-right (changed_suite s s).0 ((changed_clauses cs cs).0 ++ ((changed_opt o o).0 ++
      (changed_opt fin z).0)) (some-right (changed_clauses cs cs).0 ((changed_opt o o).0 ++
      (changed_opt fin z).0) (some-right (changed_opt o o).0 (changed_opt fin z).0 x)))))
      (λ x. inr (functions-right l (gather_suite defining s) (gather_suite defining s)
      (gather_clauses defining cs ++ (gather_opt defining o ++ (gather_opt defining fin)))
      (gather_clauses defining cs ++ (gather_opt defining o ++ (gather_opt defining z)))
      (suites-define l s s (suites-self l s)) (functions-right l (gather_clauses defining cs)
      (gather_clauses defining cs) (gather_opt defining o ++ (gather_opt defining fin))
      (gather_opt defining o ++ (gather_opt defining z)) (clauses-define l cs cs
      (clauses-self l cs)) (functions-right l (gather_opt defining o) (gather_opt defining o)
      (gather_opt defining fin) (gather_opt defining z) (opts-define l o o (opts-self l o)) x)))))
      (opt_suite_mutants fin) (with-opts fin (opts-show fin tr2 pr2)))))
  kinds-show m (def x ps ds c (suite f a i b)) t p =
      marks-joined (FromKind m (def x ps ds c (suite f a i b))) (around (λ z. def x ps z c
      (suite f a i b)) (at_mark m (exprs_mutants ds))) _ (marks-at (FromKind m (def x ps ds c
      (suite f a i b))) m (λ z. def x ps z c (suite f a i b)) (λ z. same_exprs ds z ≡ false)
      (λ z h. inl (where-some (same_simple (def x ps ds c (suite f a i b)) (def x ps z c
      (suite f a i b))) _ (right-false (is_same_text x x) (same_exprs ds z && same_bool c c)
      (left-false (same_exprs ds z) (same_bool c c) h)) refl)) (exprs_mutants ds)
      (exprs-differ ds)) (marks-around (FromKind m (def x ps ds c (suite f a i b)))
      (λ z. def x ps ds c z) (λ l z. ShowsDef m x ps ds c f a i b z) (λ l z h. inr h)
      (suite_mutants (suite f a i b)) (marks-around (λ l z. ShowsDef m x ps ds c f a i b z)
      (λ d. suite f a i d) (λ l d. Rows l b d × ShowsRows b d)
      (λ l d h. body-shown l m x ps b d h.0 p.0 h.1) (stmts_mutants b) (with-rows b
      (rows-show b p.0.tests (none-plain (gather defining b) p.0.inner)))))
  kinds-show m (match e last cs) t p =
      marks-joined (FromKind m (match e last cs)) (around (λ z. match z last cs) (at_mark m
      (expr_mutants e))) _ (marks-at (FromKind m (match e last cs)) m (λ z. match z last cs)
      (λ z. same_expr e z ≡ false) (λ z h. inl (parts-some _ _ _ (cases-fit 0 cs cs
      (cases-self 0 cs) t.1) (some-left (changed_header (same_expr e z) m m).0
      (changed_cases cs cs).0 (header-some (same_expr e z) m m h)))) (expr_mutants e)
      (expr-differs e)) (marks-around (FromKind m (match e last cs)) (λ z. match e last z)
      (λ l z. CasesOf l cs z × ShowsCasesOf cs z) (λ l z h. way h.1 (λ x. inl (parts-some _ _ _
      (cases-fit l cs z h.0 t.1) (some-right (changed_header (same_expr e e) m m).0
      (changed_cases cs z).0 x))) (λ x. inr x)) (cases_mutants cs) (with-cases cs
      (cases-show cs t.1 p)))

  suites-show : (s : Suite) → HaveTests (gather_suite all_statements s)
      → ArePlain (gather_suite defining s) → Marks (λ l t. ShowsSuites s t) (suite_mutants s)
  suites-show (suite f a i b) t p =
      marks-around (λ l z. ShowsSuites (suite f a i b) z) (λ c. suite f a i c)
      (λ l c. Rows l b c × ShowsRows b c) (λ l c h. way h.1 (λ x. inl (parts-some _ _ _
      (heads-agree l b c h.0) x)) (λ x. inr x)) (stmts_mutants b) (with-rows b (rows-show b t p))

  opts-show : (o : OptSuite) → HaveTests (gather_opt all_statements o)
      → ArePlain (gather_opt defining o) → Marks (λ l t. ShowsOpts o t) (opt_suite_mutants o)
  opts-show no_suite t p = tt
  opts-show (has_suite s) t p =
      marks-around (λ l z. ShowsOpts (has_suite s) z) (λ z. has_suite z) (λ l z. ShowsSuites s z)
      (λ l z h. h) (suite_mutants s) (suites-show s t p)

  arms-show : (v : Arms) → HaveTests (gather_arms all_statements v) → ArePlain
      (gather_arms defining v) → Marks (λ l w. ShowsArmsOf v w) (arms_mutants v)
  arms-show no_arms t p = tt
  arms-show (arm e (suite n a i b) r) t p =
      let tb = all-left Tested (gather all_statements b) (gather_arms all_statements r) t in
      let tr = all-right Tested (gather all_statements b) (gather_arms all_statements r) t in
      let pb = all-left Plain (gather defining b) (gather_arms defining r) p in
      let pr = all-right Plain (gather defining b) (gather_arms defining r) p in
      marks-joined (λ l w. ShowsArmsOf (arm e (suite n a i b) r) w) (around (λ z. arm z
      (suite n a i b) r) (at_mark n (expr_mutants e))) _ (marks-at (λ l w. ShowsArmsOf (arm e
      (suite n a i b) r) w) n (λ z. arm z (suite n a i b) r) (λ z. same_expr e z ≡ false)
      (λ z h. inl (some-left (changed_header (same_expr e z) n n).0 _ (header-some (same_expr e z)
      n n h))) (expr_mutants e) (expr-differs e)) (marks-joined (λ l w. ShowsArmsOf (arm e
      (suite n a i b) r) w) (around (λ z. arm e z r) (suite_mutants (suite n a i b))) _
      (marks-around (λ l w. ShowsArmsOf (arm e (suite n a i b) r) w) (λ z. arm e z r)
      (λ l w. ShowsArmsOf (arm e (suite n a i b) r) (arm e w r)) (λ l z h. h) (suite_mutants
      (suite n a i b)) (marks-around (λ l w. ShowsArmsOf (arm e (suite n a i b) r) (arm e w r))
      (λ z. suite n a i z) (λ l z. Rows l b z × ShowsRows b z) (λ l z h. way h.1 (λ x. inl
      (some-right _ _ (some-left _ _ (parts-some _ _ _ (heads-agree l b z h.0) x)))) (λ x. inr
      (functions-left (gather defining b) (gather defining z) (gather_arms defining r)
      (gather_arms defining r) x))) (stmts_mutants b) (with-rows b (rows-show b tb pb))))
      (marks-around (λ l w. ShowsArmsOf (arm e (suite n a i b) r) w) (λ z. arm e (suite n a i b)
      z) (λ l z. ShowsArmsOf r z) (λ l z h. way h (λ x. inl (some-right (changed_header
      (same_expr e e) n n).0 ((changed_stmts b b).0 ++ (changed_arms r z).0) (some-right
      (changed_stmts b b).0 (changed_arms r z).0 x))) (λ x. inr (functions-right l
      (gather defining b) (gather defining b) (gather_arms defining r) (gather_arms defining z)
      (rows-define l b b (rows-self l b)) x))) (arms_mutants r) (arms-show r tr pr)))

  clauses-show : (v : Clauses) → HaveTests (gather_clauses all_statements v) → ArePlain
      (gather_clauses defining v) → Marks (λ l w. ShowsClausesOf v w) (clauses_mutants v)
  clauses-show no_clauses t p = tt
  clauses-show (clause e y (suite n a i b) r) t p =
      let tb = all-left Tested (gather all_statements b) (gather_clauses all_statements r) t in
      let tr = all-right Tested (gather all_statements b) (gather_clauses all_statements r) t in
      let pb = all-left Plain (gather defining b) (gather_clauses defining r) p in
      let pr = all-right Plain (gather defining b) (gather_clauses defining r) p in
      marks-joined (λ l w. ShowsClausesOf (clause e y (suite n a i b) r) w) (around
      (λ z. clause z y (suite n a i b) r) (at_mark n (maybe_mutants e))) _ (marks-at
      (λ l w. ShowsClausesOf (clause e y (suite n a i b) r) w) n (λ z. clause z y (suite n a i b)
      r) (λ z. same_maybe e z ≡ false) (λ z h. inl (some-left (changed_header
      (same_maybe e z && same_option is_same_text y y) n n).0 _ (header-some
      (same_maybe e z && same_option is_same_text y y) n n (left-false (same_maybe e z)
      (same_option is_same_text y y) h)))) (maybe_mutants e) (maybe-differs e)) (marks-joined
      (λ l w. ShowsClausesOf (clause e y (suite n a i b) r) w) (around (λ z. clause e y z r)
      (suite_mutants (suite n a i b))) _ (marks-around (λ l w. ShowsClausesOf (clause e y
      (suite n a i b) r) w) (λ z. clause e y z r) (λ l w. ShowsClausesOf (clause e y
      (suite n a i b) r) (clause e y w r)) (λ l z h. h) (suite_mutants (suite n a i b))
      (marks-around (λ l w. ShowsClausesOf (clause e y (suite n a i b) r) (clause e y w r))
      (λ z. suite n a i z) (λ l z. Rows l b z × ShowsRows b z) (λ l z h. way h.1 (λ x. inl
      (some-right _ _ (some-left _ _ (parts-some _ _ _ (heads-agree l b z h.0) x)))) (λ x. inr
      (functions-left (gather defining b) (gather defining z) (gather_clauses defining r)
      (gather_clauses defining r) x))) (stmts_mutants b) (with-rows b (rows-show b tb pb))))
      (marks-around (λ l w. ShowsClausesOf (clause e y (suite n a i b) r) w) (λ z. clause e y
      (suite n a i b) z) (λ l z. ShowsClausesOf r z) (λ l z h. way h (λ x. inl (some-right
      (changed_header (same_maybe e e && same_option is_same_text y y) n n).0
      ((changed_stmts b b).0 ++ (changed_clauses r z).0) (some-right (changed_stmts b b).0
      (changed_clauses r z).0 x))) (λ x. inr (functions-right l (gather defining b)
      (gather defining b) (gather_clauses defining r) (gather_clauses defining z)
      (rows-define l b b (rows-self l b)) x))) (clauses_mutants r) (clauses-show r tr pr)))

  cases-show : (v : Cases) → HaveTests (gather_cases all_statements v) → ArePlain
      (gather_cases defining v) → Marks (λ l w. ShowsCasesOf v w) (cases_mutants v)
  cases-show no_cases t p = tt
  cases-show (case q g (suite n a i b) r) t p =
      let tb = all-left Tested (gather all_statements b) (gather_cases all_statements r) t in
      let tr = all-right Tested (gather all_statements b) (gather_cases all_statements r) t in
      let pb = all-left Plain (gather defining b) (gather_cases defining r) p in
      let pr = all-right Plain (gather defining b) (gather_cases defining r) p in
      marks-joined (λ l w. ShowsCasesOf (case q g (suite n a i b) r) w) (around (λ z. case q z
      (suite n a i b) r) (at_mark n (maybe_mutants g))) _ (marks-at (λ l w. ShowsCasesOf (case q g
      (suite n a i b) r) w) n (λ z. case q z (suite n a i b) r) (λ z. same_maybe g z ≡ false)
      (λ z h. inl (some-left (changed_header (same_pattern q q && same_maybe g z) n n).0 _
      (header-some (same_pattern q q && same_maybe g z) n n (right-false (same_pattern q q)
      (same_maybe g z) h)))) (maybe_mutants g) (maybe-differs g)) (marks-joined
      (λ l w. ShowsCasesOf (case q g (suite n a i b) r) w) (around (λ z. case q g z r)
      (suite_mutants (suite n a i b))) _ (marks-around (λ l w. ShowsCasesOf (case q g
      (suite n a i b) r) w) (λ z. case q g z r) (λ l w. ShowsCasesOf (case q g (suite n a i b) r)
      (case q g w r)) (λ l z h. h) (suite_mutants (suite n a i b)) (marks-around
      (λ l w. ShowsCasesOf (case q g (suite n a i b) r) (case q g w r)) (λ z. suite n a i z)
      (λ l z. Rows l b z × ShowsRows b z) (λ l z h. way h.1 (λ x. inl (some-right _ _
      (some-left _ _ (parts-some _ _ _ (heads-agree l b z h.0) x)))) (λ x. inr (functions-left
      (gather defining b) (gather defining z) (gather_cases defining r) (gather_cases defining r)
      x))) (stmts_mutants b) (with-rows b (rows-show b tb pb)))) (marks-around
      (λ l w. ShowsCasesOf (case q g (suite n a i b) r) w) (λ z. case q g (suite n a i b) z)
      (λ l z. ShowsCasesOf r z) (λ l z h. way h (λ x. inl (some-right (changed_header
      (same_pattern q q && same_maybe g g) n n).0 ((changed_stmts b b).0 ++ (changed_cases r z).0)
      (some-right (changed_stmts b b).0 (changed_cases r z).0 x))) (λ x. inr (functions-right l
      (gather defining b) (gather defining b) (gather_cases defining r) (gather_cases defining z)
      (rows-define l b b (rows-self l b)) x))) (cases_mutants r) (cases-show r tr pr)))
