-- Versions agree in number, kind and line, and bind the same names.
use Rattle.std.proofs.Common.{◌≡◌, ℕ, nat_eq, IsTrue, List, [], ◌∷◌, ◌++◌, map, refl, sym, ap, ◌∙◌, inl, inr}
use Rattle.std.specs.Prelude.{option_to_list}
use Rattle.std.proofs.lemmas.Bool.{eq-eqb}
use Rattle.py_text.proofs.TestLaws.{both_true}
use Rattle.py_syntax.specs.Functions.{is_string, is_docstring}
use Rattle.py_syntax.specs.Gathering.{gather, gather_kind, gather_suite, gather_opt, gather_arms, gather_clauses, gather_cases}
use Rattle.py_syntax.specs.Names.{target_names, targets_names, pattern_names, assigning_all, declaring_all, alias_name, assigns, own_bindings, binding}
use Rattle.py_syntax.specs.Tree.{Expr, Exprs}
use Rattle.py_syntax.specs.Tree.{Stmts, no_stmts, stmt, Suite, suite, OptSuite, no_suite, has_suite, Arms, no_arms, arm, Clauses, no_clauses, clause, Cases, no_cases, case, StmtKind, expr, assign, aug_assign, pass, break, continue, return, raise, assert, global, import, from, if', while, for, try, def, match}
use Rattle.py_changes.specs.Changed.{kind_number, same_heads}
use Rattle.py_changes.proofs.SameLaws.{two}
use Rattle.py_mutants_laws.proofs.Versions.{Alike, AlikeAll, Here, Rows, Kinds, Suites, Opts, ArmsOf, ClausesOf, CasesOf}

module _ (l : ℕ) where
  string-same : (m : ℕ) (e f : Expr) → Here l Alike m e f → is_string e ≡ is_string f
  string-same m e f (inl p) = ap is_string p
  string-same m e f (inr h) = h.1.names.old ∙ sym h.1.names.new

  -- versions of a statement are of one kind, and none or both are docstrings
  pub kinds-agree : (m : ℕ) (k j : StmtKind) → Kinds l m k j
      → (kind_number k ≡ kind_number j) × (is_docstring k ≡ is_docstring j)
  kinds-agree m (expr e) (expr f) h = (refl, string-same m e f h)
  kinds-agree m (assign ts e) (assign us f) h = (refl, refl)
  kinds-agree m (aug_assign t op e) (aug_assign u oq f) h = (refl, refl)
  kinds-agree m pass pass h = (refl, refl)
  kinds-agree m break break h = (refl, refl)
  kinds-agree m continue continue h = (refl, refl)
  kinds-agree m (return e) (return f) h = (refl, refl)
  kinds-agree m (raise e) (raise f) h = (refl, refl)
  kinds-agree m (assert e w) (assert f v) h = (refl, refl)
  kinds-agree m (global xs) (global ys) h = (refl, refl)
  kinds-agree m (import names) (import others) h = (refl, refl)
  kinds-agree m (from x names) (from y others) h = (refl, refl)
  kinds-agree m (if' us o) (if' bs q) h = (refl, refl)
  kinds-agree m (while e s o) (while f t q) h = (refl, refl)
  kinds-agree m (for x e s o) (for y f t q) h = (refl, refl)
  kinds-agree m (try s cs o fin) (try t ds q gin) h = (refl, refl)
  kinds-agree m (def x ps ds c s) (def y qs es d t) h = (refl, refl)
  kinds-agree m (match e a cs) (match f b ds) h = (refl, refl)
  kinds-agree m k j h = absurd h

  pub heads-agree : (a b : Stmts) → Rows l a b → IsTrue (same_heads a b)
  heads-agree no_stmts no_stmts h = refl
  heads-agree (stmt f a k e r) (stmt g b j x s) h =
      both_true (nat_eq f g) _ (eq-eqb f g h.0)
      (both_true (nat_eq (kind_number k) (kind_number j)) (same_heads r s)
      (eq-eqb (kind_number k) (kind_number j) (kinds-agree f k j h.1).0) (heads-agree r s h.2))
  heads-agree a b h = absurd h

  -- ---- names

  names-same : (m : ℕ) (e f : Expr) → Here l Alike m e f → target_names e ≡ target_names f
  names-same m e f (inl p) = ap target_names p
  names-same m e f (inr h) = h.1.names.targets

  all-names-same : (m : ℕ) (es fs : Exprs) → Here l AlikeAll m es fs
      → targets_names es ≡ targets_names fs
  all-names-same m es fs (inl p) = ap targets_names p
  all-names-same m es fs (inr h) = h.1.names.targets

  -- lists that are the same, joined
  joined : {A : Type 0} {xs ys zs ws : List A} → xs ≡ ys → zs ≡ ws → (xs ++ zs) ≡ (ys ++ ws)
  joined p q = two (λ x y. x ++ y) p q

  mutual
    pub rows-bind : (a b : Stmts) → Rows l a b → gather binding a ≡ gather binding b
    rows-bind no_stmts no_stmts h = refl
    rows-bind (stmt f a k e r) (stmt g b j x s) h =
        joined (kinds-bind f k j h.1) (rows-bind r s h.2)
    rows-bind a b h = absurd h

    kinds-bind : (m : ℕ) (k j : StmtKind) → Kinds l m k j
        → gather_kind binding (own_bindings k) k ≡ gather_kind binding (own_bindings j) j
    kinds-bind m (expr e) (expr f) h = refl
    kinds-bind m (assign ts e) (assign us f) h = ap assigning_all (all-names-same m ts us h.0)
    kinds-bind m (aug_assign t op e) (aug_assign u oq f) h =
        ap assigning_all (names-same m t u h.0)
    kinds-bind m pass pass h = refl
    kinds-bind m break break h = refl
    kinds-bind m continue continue h = refl
    kinds-bind m (return e) (return f) h = refl
    kinds-bind m (raise e) (raise f) h = refl
    kinds-bind m (assert e w) (assert f v) h = refl
    kinds-bind m (global xs) (global ys) h = ap declaring_all h
    kinds-bind m (import names) (import others) h = ap (λ xs. assigning_all (map alias_name xs)) h
    kinds-bind m (from x names) (from y others) h =
        ap (λ xs. assigning_all (map alias_name xs)) h.1
    kinds-bind m (if' us o) (if' bs q) h = joined (arms-bind us bs h.0) (opts-bind o q h.1)
    kinds-bind m (while e s o) (while f t q) h =
        joined (suites-bind s t h.1) (opts-bind o q h.2)
    kinds-bind m (for x e s o) (for y f t q) h =
        joined (ap assigning_all (names-same m x y h.0))
        (joined (suites-bind s t h.2) (opts-bind o q h.3))
    kinds-bind m (try s cs o fin) (try t ds q gin) h =
        joined (suites-bind s t h.0)
        (joined (clauses-bind cs ds h.1) (joined (opts-bind o q h.2) (opts-bind fin gin h.3)))
    kinds-bind m (def x ps ds c s) (def y qs es d t) h = ap (λ z. assigns z ∷ []) h.0
    kinds-bind m (match e a cs) (match f b ds) h = cases-bind cs ds h.2
    kinds-bind m k j h = absurd h

    suites-bind : (s t : Suite) → Suites l s t → gather_suite binding s ≡ gather_suite binding t
    suites-bind (suite f a i b) (suite g c j d) h = rows-bind b d h.1

    opts-bind : (o q : OptSuite) → Opts l o q → gather_opt binding o ≡ gather_opt binding q
    opts-bind no_suite no_suite h = refl
    opts-bind (has_suite s) (has_suite t) h = suites-bind s t h
    opts-bind o q h = absurd h

    arms-bind : (us bs : Arms) → ArmsOf l us bs → gather_arms binding us ≡ gather_arms binding bs
    arms-bind no_arms no_arms h = refl
    arms-bind (arm e s r) (arm f t q) h = joined (suites-bind s t h.1) (arms-bind r q h.2)
    arms-bind us bs h = absurd h

    clauses-bind : (cs ds : Clauses) → ClausesOf l cs ds
        → gather_clauses binding cs ≡ gather_clauses binding ds
    clauses-bind no_clauses no_clauses h = refl
    clauses-bind (clause e x s r) (clause f y t q) h =
        joined (ap (λ z. assigning_all (option_to_list z)) h.1)
        (joined (suites-bind s t h.2) (clauses-bind r q h.3))
    clauses-bind cs ds h = absurd h

    cases-bind : (cs ds : Cases) → CasesOf l cs ds
        → gather_cases binding cs ≡ gather_cases binding ds
    cases-bind no_cases no_cases h = refl
    cases-bind (case p g s r) (case q u t c) h =
        joined (ap (λ z. assigning_all (pattern_names z)) h.0)
        (joined (suites-bind s t h.2) (cases-bind r c h.3))
    cases-bind cs ds h = absurd h
