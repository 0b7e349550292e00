-- The same names occur in versions.
use Rattle.std.proofs.Common.{◌≡◌, ℕ, List, ◌∷◌, ◌++◌, Option, refl, ap, inl, inr}
use Rattle.py_syntax.specs.Gathering.{gather, gather_kind, gather_suite, gather_opt, gather_arms, gather_clauses, gather_cases}
use Rattle.py_syntax.specs.Tree.{Expr, Exprs}
use Rattle.py_syntax.specs.Tree.{Stmts, no_stmts, stmt, Suite, suite, OptSuite, no_suite, has_suite, Arms, no_arms, arm, Clauses, no_clauses, clause, Cases, no_cases, case, StmtKind, expr, assign, aug_assign, pass, break, continue, return, raise, assert, global, import, from, if', while, for, try, def, match}
use Rattle.py_scope.specs.declared.occurrence.Occurrence.TheVariants.{Assigns}
use Rattle.py_scope.specs.Occurrences.{in_expr, in_exprs, in_option, in_target, in_targets, in_pattern, in_bound, in_aliases, declaring, own_occurrences, seeing}
use Rattle.py_changes.specs.Mutants.{header_line}
use Rattle.py_changes.proofs.SameLaws.{two}
use Rattle.py_mutants_laws.proofs.Versions.{Alike, AlikeAll, AlikeMaybe, Here, Rows, Kinds, Suites, Opts, ArmsOf, ClausesOf, CasesOf}

module _ (l : ℕ) where
  used : (m : ℕ) (e f : Expr) → Here l Alike m e f → in_expr e ≡ in_expr f
  used m e f (inl p) = ap in_expr p
  used m e f (inr h) = h.1.names.uses

  target : (m : ℕ) (e f : Expr) → Here l Alike m e f → in_target e ≡ in_target f
  target m e f (inl p) = ap in_target p
  target m e f (inr h) = h.1.names.assigned

  all-used : (m : ℕ) (es fs : Exprs) → Here l AlikeAll m es fs → in_exprs es ≡ in_exprs fs
  all-used m es fs (inl p) = ap in_exprs p
  all-used m es fs (inr h) = h.1.names.uses

  targets : (m : ℕ) (es fs : Exprs) → Here l AlikeAll m es fs → in_targets es ≡ in_targets fs
  targets m es fs (inl p) = ap in_targets p
  targets m es fs (inr h) = h.1.names.assigned

  maybe-used : (m : ℕ) (e f : Option Expr) → Here l AlikeMaybe m e f → in_option e ≡ in_option f
  maybe-used m e f (inl p) = ap in_option p
  maybe-used m e f (inr h) = h.1.names.uses

  -- lists that are the same, joined
  joined : {A : Type 0} {xs ys zs ws : List A} → xs ≡ ys → zs ≡ ws → (xs ++ zs) ≡ (ys ++ ws)
  joined p q = two (λ x y. x ++ y) p q

  mutual
    pub rows-see : (a b : Stmts) → Rows l a b → gather seeing a ≡ gather seeing b
    rows-see no_stmts no_stmts h = refl
    rows-see (stmt f a k e r) (stmt g b j x s) h =
        joined (kinds-see f g k j h.0 h.1) (rows-see r s h.2)
    rows-see a b h = absurd h

    kinds-see : (m n : ℕ) (k j : StmtKind) → m ≡ n → Kinds l m k j
        → gather_kind seeing (own_occurrences m k) k ≡ gather_kind seeing (own_occurrences n j) j
    kinds-see m n (expr e) (expr f) p h = used m e f h
    kinds-see m n (assign ts e) (assign us f) p h =
        joined (targets m ts us h.0) (used m e f h.1)
    kinds-see m n (aug_assign t op e) (aug_assign u oq f) p h =
        joined (target m t u h.0) (used m e f h.2)
    kinds-see m n pass pass p h = refl
    kinds-see m n break break p h = refl
    kinds-see m n continue continue p h = refl
    kinds-see m n (return e) (return f) p h = maybe-used m e f h
    kinds-see m n (raise e) (raise f) p h = maybe-used m e f h
    kinds-see m n (assert e w) (assert f v) p h = joined (used m e f h.0) (maybe-used m w v h.1)
    kinds-see m n (global xs) (global ys) p h = two declaring p h
    kinds-see m n (import names) (import others) p h = ap in_aliases h
    kinds-see m n (from x names) (from y others) p h = ap in_aliases h.1
    kinds-see m n (if' us o) (if' bs q) p h = joined (arms-see us bs h.0) (opts-see o q h.1)
    kinds-see m n (while e s o) (while f t q) p h =
        joined (used m e f h.0) (joined (suites-see s t h.1) (opts-see o q h.2))
    kinds-see m n (for x e s o) (for y f t q) p h =
        joined (joined (target m x y h.0) (used m e f h.1))
        (joined (suites-see s t h.2) (opts-see o q h.3))
    kinds-see m n (try s cs o fin) (try t ds q gin) p h =
        joined (suites-see s t h.0)
        (joined (clauses-see cs ds h.1) (joined (opts-see o q h.2) (opts-see fin gin h.3)))
    kinds-see m n (def x ps ds c s) (def y qs es d t) p h =
        two (λ z os. Assigns z ∷ os) h.0 (all-used m ds es h.2)
    kinds-see m n (match e a cs) (match f b ds) p h =
        joined (used m e f h.0) (cases-see cs ds h.2)
    kinds-see m n k j p h = absurd h

    suites-see : (s t : Suite) → Suites l s t → gather_suite seeing s ≡ gather_suite seeing t
    suites-see (suite f a i b) (suite g c j d) h = rows-see b d h.1

    opts-see : (o q : OptSuite) → Opts l o q → gather_opt seeing o ≡ gather_opt seeing q
    opts-see no_suite no_suite h = refl
    opts-see (has_suite s) (has_suite t) h = suites-see s t h
    opts-see o q h = absurd h

    arms-see : (us bs : Arms) → ArmsOf l us bs → gather_arms seeing us ≡ gather_arms seeing bs
    arms-see no_arms no_arms h = refl
    arms-see (arm e s r) (arm f t q) h =
        joined (used (header_line s) e f h.0) (joined (suites-see s t h.1) (arms-see r q h.2))
    arms-see us bs h = absurd h

    clauses-see : (cs ds : Clauses) → ClausesOf l cs ds
        → gather_clauses seeing cs ≡ gather_clauses seeing ds
    clauses-see no_clauses no_clauses h = refl
    clauses-see (clause e x s r) (clause f y t q) h =
        joined (joined (maybe-used (header_line s) e f h.0) (ap in_bound h.1))
        (joined (suites-see s t h.2) (clauses-see r q h.3))
    clauses-see cs ds h = absurd h

    cases-see : (cs ds : Cases)
        → CasesOf l cs ds → gather_cases seeing cs ≡ gather_cases seeing ds
    cases-see no_cases no_cases h = refl
    cases-see (case p g s r) (case q w t c) h =
        joined (joined (ap in_pattern h.0) (maybe-used (header_line s) g w h.1))
        (joined (suites-see s t h.2) (cases-see r c h.3))
    cases-see cs ds h = absurd h
