-- Versions change no line but the one where they differ: rows, statements and suites.
--     On, Only                  lines that are all the one, of one version and of both
use Rattle.std.proofs.Common.{◌≡◌, ℕ, nat_eq, Bool, true, false, ◌&&◌, IsTrue, List, [], ◌∷◌, ◌++◌, Option, refl, sym, ◌∙◌, ◌⊎◌, inl, inr}
use Rattle.std.specs.List.{AllByRecursion}
use Rattle.std.proofs.lemmas.Bool.{eq-eqb}
use Rattle.py_text.specs.Comparison.{is_same_text}
use Rattle.py_text.proofs.SameTexts.{text_is_same}
use Rattle.py_text.proofs.TestLaws.{both_true}
use Rattle.py_syntax.specs.Gathering.{gather, gather_kind, gather_suite, gather_opt, gather_arms, gather_clauses, gather_cases}
use Rattle.py_syntax.specs.Marks.{own_mark, stmts_marks}
use Rattle.py_syntax.specs.Tree.{Expr, Exprs, Alias}
use Rattle.py_syntax.specs.Tree.{Stmts, no_stmts, stmt, Suite, suite, OptSuite, no_suite, has_suite, Arms, no_arms, arm, Clauses, no_clauses, clause, Cases, no_cases, case, StmtKind, expr, assign, aug_assign, pass, break, continue, return, raise, assert, global, import, from, if', while, for, try, def, match}
use Rattle.py_changes.specs.Same.{same_bool, same_operator, same_option, same_list, same_alias, same_expr, same_exprs, same_maybe, same_pattern}
use Rattle.py_changes.specs.Changed.{Lines, also, where_not, same_heads, fits_suite, fits_opt, fits_arms, fits_clauses, fits_cases, same_simple, changed_header, all_marks, by_parts, changed_each, changed_kind, changed_suite, changed_opt, changed_arms, changed_clauses, changed_cases}
use Rattle.py_changes.specs.Regular.{all_statements}
use Rattle.py_changes.proofs.Compared.{way}
use Rattle.py_changes.proofs.Lists.{all-left, all-right, all-joined}
use Rattle.py_changes.proofs.SameItself.{expr-self, exprs-self}
use Rattle.py_changes.proofs.SameLaws.{no}
use Rattle.py_mutants_laws.proofs.SameEqual.{bool-self, operator-self, option-self, list-self, alias-self, maybe-self, pattern-self, equal-same, both-ways}
use Rattle.py_mutants_laws.proofs.Versions.{Alike, AlikeAll, AlikeMaybe, AnyOperator, Here, Rows, Kinds, Suites, Opts, ArmsOf, ClausesOf, CasesOf}
use Rattle.py_mutants_laws.proofs.Agreeing.{heads-agree}
use Rattle.py_mutants_laws.proofs.Fitting.{Tested, HaveTests, suites-fit, opts-fit, arms-fit, clauses-fit, cases-fit}

module _ (l : ℕ) where
  -- all lines are this one
  abbrev pub On : List ℕ → Type 0
  On ls = AllByRecursion (λ k. k ≡ l) ls

  -- of both versions
  abbrev pub Only : Lines → Type 0
  Only ls = On ls.0 × On ls.1

  pub also-only : (a b : Lines) → Only a → Only b → Only (also a b)
  also-only a b h k =
      (all-joined (λ n. n ≡ l) a.0 b.0 h.0 k.0, all-joined (λ n. n ≡ l) a.1 b.1 h.1 k.1)

  pub parts-only : (x : Bool) (parts whole : Lines) → IsTrue x → Only parts
      → Only (by_parts x parts whole)
  parts-only true parts whole x h = h
  parts-only false parts whole x h = no x

  pub where-only : (x : Bool) (lines : Lines) → IsTrue x ⊎ Only lines → Only (where_not x lines)
  where-only true lines h = (tt, tt)
  where-only false lines (inl h) = no h
  where-only false lines (inr h) = h

  header-only : (same : Bool) (m n : ℕ) → m ≡ n → IsTrue same ⊎ (m ≡ l)
      → Only (changed_header same m n)
  header-only same m n p h =
      where-only (nat_eq m n && same) (m ∷ [], n ∷ [])
      (way h (λ x. inl (both_true (nat_eq m n) same (eq-eqb m n p) x))
      (λ q. inr ((q, tt), (sym p ∙ q, tt))))

  -- the same, or at the line
  here : {A : Type 0} (Like : A → A → Type 0) (same : A → A → Bool)
      → ((x : A) → IsTrue (same x x)) → (m : ℕ) (x y : A) → Here l Like m x y
      → IsTrue (same x y) ⊎ (m ≡ l)
  here Like same self m x y (inl p) = inl (equal-same same self x y p)
  here Like same self m x y (inr h) = inr h.0

  here-expr : (m : ℕ) (e f : Expr) → Here l Alike m e f → IsTrue (same_expr e f) ⊎ (m ≡ l)
  here-expr m e f h = here Alike same_expr expr-self m e f h

  here-exprs : (m : ℕ) (e f : Exprs) → Here l AlikeAll m e f → IsTrue (same_exprs e f) ⊎ (m ≡ l)
  here-exprs m e f h = here AlikeAll same_exprs exprs-self m e f h

  here-maybe : (m : ℕ) (e f : Option Expr) → Here l AlikeMaybe m e f
      → IsTrue (same_maybe e f) ⊎ (m ≡ l)
  here-maybe m e f h = here AlikeMaybe same_maybe maybe-self m e f h

  own-only : (m : ℕ) (k : StmtKind) → m ≡ l → On (own_mark m k)
  own-only m (global xs) p = tt
  own-only m (if' us o) p = tt
  own-only m k p = (p, tt)

  simple-only : (m : ℕ) (k j : StmtKind) → IsTrue (same_simple k j) ⊎ (m ≡ l)
      → Only (where_not (same_simple k j) (own_mark m k, own_mark m j))
  simple-only m k j h =
      where-only (same_simple k j) (own_mark m k, own_mark m j)
      (way h (λ x. inl x) (λ p. inr (own-only m k p, own-only m j p)))

  names-here : (m : ℕ) (xs ys : List Alias) → xs ≡ ys
      → IsTrue (same_list same_alias xs ys) ⊎ (m ≡ l)
  names-here m xs ys p = inl (equal-same (same_list same_alias) (list-self same_alias alias-self)
      xs ys p)

  row-only : (b d : Stmts) → Rows l b d → Only (changed_each b d)
      → Only (by_parts (same_heads b d) (changed_each b d) (stmts_marks b, stmts_marks d))
  row-only b d h k =
      parts-only (same_heads b d) (changed_each b d) (stmts_marks b, stmts_marks d)
      (heads-agree l b d h) k

  mutual
    pub rows-only : (a b : Stmts) → Rows l a b → HaveTests (gather all_statements a)
        → Only (changed_each a b)
    rows-only no_stmts no_stmts h t = (tt, tt)
    rows-only (stmt f a k e r) (stmt g b j x s) h t =
        let own = gather_kind all_statements ((f, k) ∷ []) k in
        also-only (changed_kind f k j) (changed_each r s)
        (kinds-only f k j h.1 (all-left Tested own (gather all_statements r) t))
        (rows-only r s h.2 (all-right Tested own (gather all_statements r) t))
    rows-only a b h t = absurd h

    kinds-only : (m : ℕ) (k j : StmtKind) → Kinds l m k j
        → HaveTests (gather_kind all_statements ((m, k) ∷ []) k) → Only (changed_kind m k j)
    kinds-only m (expr e) (expr f) h t = simple-only m (expr e) (expr f) (here-expr m e f h)
    kinds-only m (assign ts e) (assign us f) h t =
        simple-only m (assign ts e) (assign us f)
        (both-ways (same_exprs ts us) (same_expr e f) (here-exprs m ts us h.0)
        (here-expr m e f h.1))
    kinds-only m (aug_assign u op e) (aug_assign v oq f) h t =
        simple-only m (aug_assign u op e) (aug_assign v oq f)
        (both-ways (same_expr u v) (same_operator op oq && same_expr e f) (here-expr m u v h.0)
        (both-ways (same_operator op oq) (same_expr e f)
        (here AnyOperator same_operator operator-self m op oq h.1) (here-expr m e f h.2)))
    kinds-only m pass pass h t = (tt, tt)
    kinds-only m break break h t = (tt, tt)
    kinds-only m continue continue h t = (tt, tt)
    kinds-only m (return e) (return f) h t =
        simple-only m (return e) (return f) (here-maybe m e f h)
    kinds-only m (raise e) (raise f) h t = simple-only m (raise e) (raise f) (here-maybe m e f h)
    kinds-only m (assert e w) (assert f v) h t =
        simple-only m (assert e w) (assert f v)
        (both-ways (same_expr e f) (same_maybe w v) (here-expr m e f h.0) (here-maybe m w v h.1))
    kinds-only m (global xs) (global ys) h t = (tt, tt)
    kinds-only m (import names) (import others) h t =
        simple-only m (import names) (import others) (names-here m names others h)
    kinds-only m (from x names) (from y others) h t =
        simple-only m (from x names) (from y others)
        (both-ways (is_same_text x y) (same_list same_alias names others)
        (inl (equal-same is_same_text text_is_same x y h.0)) (names-here m names others h.1))
    kinds-only m (if' us o) (if' bs q) h t =
        let ta = all-left Tested (gather_arms all_statements us) (gather_opt all_statements o)
        t.1 in
        let to = all-right Tested (gather_arms all_statements us) (gather_opt all_statements o)
        t.1 in
        parts-only (fits_arms us bs && fits_opt o q) (also (changed_arms us bs) (changed_opt o q))
        (all_marks m (if' us o) (if' bs q))
        (both_true (fits_arms us bs) (fits_opt o q) (arms-fit l us bs h.0 ta)
        (opts-fit l o q h.1 to))
        (also-only (changed_arms us bs) (changed_opt o q) (arms-only us bs h.0 ta)
        (opts-only o q h.1 to))
    kinds-only m (while e s o) (while f u q) h t =
        let ts = all-left Tested (gather_suite all_statements s) (gather_opt all_statements o)
        t.1 in
        let to = all-right Tested (gather_suite all_statements s) (gather_opt all_statements o)
        t.1 in
        parts-only (fits_suite s u && fits_opt o q)
        (also (changed_header (same_expr e f) m m) (also (changed_suite s u) (changed_opt o q)))
        (all_marks m (while e s o) (while f u q))
        (both_true (fits_suite s u) (fits_opt o q) (suites-fit l s u h.1 ts)
        (opts-fit l o q h.2 to))
        (also-only (changed_header (same_expr e f) m m)
        (also (changed_suite s u) (changed_opt o q))
        (header-only (same_expr e f) m m refl (here-expr m e f h.0))
        (also-only (changed_suite s u) (changed_opt o q) (suites-only s u h.1 ts)
        (opts-only o q h.2 to)))
    kinds-only m (for x e s o) (for y f u q) h t =
        let ts = all-left Tested (gather_suite all_statements s) (gather_opt all_statements o)
        t.1 in
        let to = all-right Tested (gather_suite all_statements s) (gather_opt all_statements o)
        t.1 in
        parts-only (fits_suite s u && fits_opt o q)
        (also (changed_header (same_expr x y && same_expr e f) m m)
        (also (changed_suite s u) (changed_opt o q)))
        (all_marks m (for x e s o) (for y f u q))
        (both_true (fits_suite s u) (fits_opt o q) (suites-fit l s u h.2 ts)
        (opts-fit l o q h.3 to))
        (also-only (changed_header (same_expr x y && same_expr e f) m m)
        (also (changed_suite s u) (changed_opt o q))
        (header-only (same_expr x y && same_expr e f) m m refl
        (both-ways (same_expr x y) (same_expr e f) (here-expr m x y h.0) (here-expr m e f h.1)))
        (also-only (changed_suite s u) (changed_opt o q) (suites-only s u h.2 ts)
        (opts-only o q h.3 to)))
    kinds-only m (try s cs o fin) (try u ds q gin) h t =
        let ss = gather_suite all_statements s in
        let cc' = gather_clauses all_statements cs in
        let oo = gather_opt all_statements o in
        let ff = gather_opt all_statements fin in
        let ts = all-left Tested ss (cc' ++ (oo ++ ff)) t.1 in
        let later = all-right Tested ss (cc' ++ (oo ++ ff)) t.1 in
        let tc = all-left Tested cc' (oo ++ ff) later in
        let last = all-right Tested cc' (oo ++ ff) later in
        let to = all-left Tested oo ff last in
        let tf = all-right Tested oo ff last in
        parts-only (fits_suite s u && (fits_clauses cs ds && (fits_opt o q && fits_opt fin gin)))
        (also (changed_suite s u)
        (also (changed_clauses cs ds) (also (changed_opt o q) (changed_opt fin gin))))
        (all_marks m (try s cs o fin) (try u ds q gin))
        (both_true (fits_suite s u) _ (suites-fit l s u h.0 ts)
        (both_true (fits_clauses cs ds) _ (clauses-fit l cs ds h.1 tc)
        (both_true (fits_opt o q) (fits_opt fin gin) (opts-fit l o q h.2 to)
        (opts-fit l fin gin h.3 tf))))
        (also-only (changed_suite s u)
        (also (changed_clauses cs ds) (also (changed_opt o q) (changed_opt fin gin)))
        (suites-only s u h.0 ts)
        (also-only (changed_clauses cs ds) (also (changed_opt o q) (changed_opt fin gin))
        (clauses-only cs ds h.1 tc)
        (also-only (changed_opt o q) (changed_opt fin gin) (opts-only o q h.2 to)
        (opts-only fin gin h.3 tf))))
    kinds-only m (def x ps ds c s) (def y qs es d u) h t =
        simple-only m (def x ps ds c s) (def y qs es d u)
        (both-ways (is_same_text x y) (same_exprs ds es && same_bool c d)
        (inl (equal-same is_same_text text_is_same x y h.0))
        (both-ways (same_exprs ds es) (same_bool c d) (here-exprs m ds es h.2)
        (inl (equal-same same_bool bool-self c d h.3))))
    kinds-only m (match e a cs) (match f b ds) h t =
        parts-only (fits_cases cs ds)
        (also (changed_header (same_expr e f) m m) (changed_cases cs ds))
        (all_marks m (match e a cs) (match f b ds)) (cases-fit l cs ds h.2 t.1)
        (also-only (changed_header (same_expr e f) m m) (changed_cases cs ds)
        (header-only (same_expr e f) m m refl (here-expr m e f h.0)) (cases-only cs ds h.2 t.1))
    kinds-only m k j h t = absurd h

    suites-only : (s u : Suite) → Suites l s u → HaveTests (gather_suite all_statements s)
        → Only (changed_suite s u)
    suites-only (suite f a i b) (suite g c j d) h t = row-only b d h.1 (rows-only b d h.1 t)

    opts-only : (o q : OptSuite) → Opts l o q → HaveTests (gather_opt all_statements o)
        → Only (changed_opt o q)
    opts-only no_suite no_suite h t = (tt, tt)
    opts-only (has_suite s) (has_suite u) h t = suites-only s u h t
    opts-only o q h t = absurd h

    arms-only : (us bs : Arms) → ArmsOf l us bs → HaveTests (gather_arms all_statements us)
        → Only (changed_arms us bs)
    arms-only no_arms no_arms h t = (tt, tt)
    arms-only (arm e (suite m a i b) r) (arm f (suite n c j d) q) h t =
        let tb = all-left Tested (gather all_statements b) (gather_arms all_statements r) t in
        let tr = all-right Tested (gather all_statements b) (gather_arms all_statements r) t in
        also-only (changed_header (same_expr e f) m n) (also
        (by_parts (same_heads b d) (changed_each b d) (stmts_marks b, stmts_marks d))
        (changed_arms r q))
        (header-only (same_expr e f) m n h.1.0 (here-expr m e f h.0))
        (also-only (by_parts (same_heads b d) (changed_each b d) (stmts_marks b, stmts_marks d))
        (changed_arms r q) (row-only b d h.1.1 (rows-only b d h.1.1 tb)) (arms-only r q h.2 tr))
    arms-only us bs h t = absurd h

    clauses-only : (cs ds : Clauses) → ClausesOf l cs ds
        → HaveTests (gather_clauses all_statements cs) → Only (changed_clauses cs ds)
    clauses-only no_clauses no_clauses h t = (tt, tt)
    clauses-only (clause e x (suite m a i b) r) (clause f y (suite n c j d) q) h t =
        let tb = all-left Tested (gather all_statements b) (gather_clauses all_statements r) t in
        let tr = all-right Tested (gather all_statements b) (gather_clauses all_statements r) t in
        also-only (changed_header (same_maybe e f && same_option is_same_text x y) m n) (also
        (by_parts (same_heads b d) (changed_each b d) (stmts_marks b, stmts_marks d))
        (changed_clauses r q))
        (header-only (same_maybe e f && same_option is_same_text x y) m n h.2.0
        (both-ways (same_maybe e f) (same_option is_same_text x y) (here-maybe m e f h.0)
        (inl (equal-same (same_option is_same_text) (option-self is_same_text text_is_same) x y
        h.1))))
        (also-only (by_parts (same_heads b d) (changed_each b d) (stmts_marks b, stmts_marks d))
        (changed_clauses r q) (row-only b d h.2.1 (rows-only b d h.2.1 tb))
        (clauses-only r q h.3 tr))
    clauses-only cs ds h t = absurd h

    cases-only : (cs ds : Cases) → CasesOf l cs ds → HaveTests (gather_cases all_statements cs)
        → Only (changed_cases cs ds)
    cases-only no_cases no_cases h t = (tt, tt)
    cases-only (case p g (suite m a i b) r) (case q w (suite n c j d) s) h t =
        let tb = all-left Tested (gather all_statements b) (gather_cases all_statements r) t in
        let tr = all-right Tested (gather all_statements b) (gather_cases all_statements r) t in
        also-only (changed_header (same_pattern p q && same_maybe g w) m n) (also
        (by_parts (same_heads b d) (changed_each b d) (stmts_marks b, stmts_marks d))
        (changed_cases r s))
        (header-only (same_pattern p q && same_maybe g w) m n h.2.0
        (both-ways (same_pattern p q) (same_maybe g w)
        (inl (equal-same same_pattern pattern-self p q h.0)) (here-maybe m g w h.1)))
        (also-only (by_parts (same_heads b d) (changed_each b d) (stmts_marks b, stmts_marks d))
        (changed_cases r s) (row-only b d h.2.1 (rows-only b d h.2.1 tb)) (cases-only r s h.3 tr))
    cases-only cs ds h t = absurd h
