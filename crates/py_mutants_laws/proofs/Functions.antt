-- Versions define versions of the same functions.
--     FunctionOf, FunctionsOf    functions with the same `def`, and bodies that are versions
use Rattle.std.proofs.Common.{◌≡◌, ℕ, List, [], ◌∷◌, ◌++◌}
use Rattle.py_syntax.specs.Functions.{Function, functions, defining, own_function}
use Rattle.py_syntax.specs.Gathering.{gather, gather_kind, gather_suite, gather_opt, gather_arms, gather_clauses, gather_cases}
use Rattle.py_syntax.specs.Tree.{Stmts, no_stmts, stmt, Suite, suite, OptSuite, no_suite, has_suite, Arms, no_arms, arm, Clauses, no_clauses, clause, Cases, no_cases, case, StmtKind, expr, assign, aug_assign, pass, break, continue, return, raise, assert, global, import, from, if', while, for, try, def, match}
use Rattle.py_mutants_laws.proofs.Versions.{Rows, Kinds, Suites, Opts, ArmsOf, ClausesOf, CasesOf}

module _ (l : ℕ) where
  -- functions with the same line, name and parameters, whose bodies are versions
  pub record FunctionOf (f g : Function) : Type 0 where
    pub line : f.line ≡ g.line
    pub name : f.name ≡ g.name
    pub params : f.params ≡ g.params
    pub body : Rows l f.body g.body

  -- functions in a row
  abbrev pub FunctionsOf : List Function → List Function → Type 0
  FunctionsOf [] [] = Unit {0}
  FunctionsOf (f ∷ fs) (g ∷ gs) = FunctionOf f g × FunctionsOf fs gs
  FunctionsOf fs gs = ⊥

  joined : (fs gs hs ks : List Function) → FunctionsOf fs gs → FunctionsOf hs ks
      → FunctionsOf (fs ++ hs) (gs ++ ks)
  joined [] [] hs ks p q = q
  joined (f ∷ fs) (g ∷ gs) hs ks p q = (p.0, joined fs gs hs ks p.1 q)
  joined fs gs hs ks p q = absurd p

  mutual
    pub rows-define : (a b : Stmts) → Rows l a b → FunctionsOf (gather defining a)
        (gather defining b)
    rows-define no_stmts no_stmts h = tt
    rows-define (stmt f a k e r) (stmt g b j x s) h =
        joined (gather_kind defining (own_function f k) k)
        (gather_kind defining (own_function g j) j) (gather defining r) (gather defining s)
        (kinds-define f g k j h.0 h.1) (rows-define r s h.2)
    rows-define a b h = absurd h

    pub kinds-define : (m n : ℕ) (k j : StmtKind) → m ≡ n → Kinds l m k j
        → FunctionsOf (gather_kind defining (own_function m k) k)
        (gather_kind defining (own_function n j) j)
    kinds-define m n (expr e) (expr f) p h = tt
    kinds-define m n (assign ts e) (assign us f) p h = tt
    kinds-define m n (aug_assign t op e) (aug_assign u oq f) p h = tt
    kinds-define m n pass pass p h = tt
    kinds-define m n break break p h = tt
    kinds-define m n continue continue p h = tt
    kinds-define m n (return e) (return f) p h = tt
    kinds-define m n (raise e) (raise f) p h = tt
    kinds-define m n (assert e w) (assert f v) p h = tt
    kinds-define m n (global xs) (global ys) p h = tt
    kinds-define m n (import names) (import others) p h = tt
    kinds-define m n (from x names) (from y others) p h = tt
    kinds-define m n (if' us o) (if' bs q) p h =
        joined (gather_arms defining us) (gather_arms defining bs) (gather_opt defining o)
        (gather_opt defining q) (arms-define us bs h.0) (opts-define o q h.1)
    kinds-define m n (while e s o) (while f t q) p h =
        joined (gather_suite defining s) (gather_suite defining t) (gather_opt defining o)
        (gather_opt defining q) (suites-define s t h.1) (opts-define o q h.2)
    kinds-define m n (for x e s o) (for y f t q) p h =
        joined (gather_suite defining s) (gather_suite defining t) (gather_opt defining o)
        (gather_opt defining q) (suites-define s t h.2) (opts-define o q h.3)
    kinds-define m n (try s cs o fin) (try t ds q gin) p h =
        joined (gather_suite defining s) (gather_suite defining t) _ _ (suites-define s t h.0)
        (joined (gather_clauses defining cs) (gather_clauses defining ds) _ _
        (clauses-define cs ds h.1)
        (joined (gather_opt defining o) (gather_opt defining q) (gather_opt defining fin)
        (gather_opt defining gin) (opts-define o q h.2) (opts-define fin gin h.3)))
    kinds-define m n (def x ps ds c (suite f a i b)) (def y qs es d (suite g z t u)) p h =
        (record { line = p; name = h.0; params = h.1; body = h.4.1 }, tt)
    kinds-define m n (match e a cs) (match f b ds) p h = cases-define cs ds h.2
    kinds-define m n k j p h = absurd h

    pub suites-define : (s t : Suite) → Suites l s t
        → FunctionsOf (gather_suite defining s) (gather_suite defining t)
    suites-define (suite f a i b) (suite g c j d) h = rows-define b d h.1

    pub opts-define : (o q : OptSuite) → Opts l o q
        → FunctionsOf (gather_opt defining o) (gather_opt defining q)
    opts-define no_suite no_suite h = tt
    opts-define (has_suite s) (has_suite t) h = suites-define s t h
    opts-define o q h = absurd h

    pub arms-define : (us bs : Arms) → ArmsOf l us bs
        → FunctionsOf (gather_arms defining us) (gather_arms defining bs)
    arms-define no_arms no_arms h = tt
    arms-define (arm e s r) (arm f t q) h =
        joined (gather_suite defining s) (gather_suite defining t) (gather_arms defining r)
        (gather_arms defining q) (suites-define s t h.1) (arms-define r q h.2)
    arms-define us bs h = absurd h

    pub clauses-define : (cs ds : Clauses) → ClausesOf l cs ds
        → FunctionsOf (gather_clauses defining cs) (gather_clauses defining ds)
    clauses-define no_clauses no_clauses h = tt
    clauses-define (clause e x s r) (clause f y t q) h =
        joined (gather_suite defining s) (gather_suite defining t) (gather_clauses defining r)
        (gather_clauses defining q) (suites-define s t h.2) (clauses-define r q h.3)
    clauses-define cs ds h = absurd h

    pub cases-define : (cs ds : Cases) → CasesOf l cs ds
        → FunctionsOf (gather_cases defining cs) (gather_cases defining ds)
    cases-define no_cases no_cases h = tt
    cases-define (case p g s r) (case q w t c) h =
        joined (gather_suite defining s) (gather_suite defining t) (gather_cases defining r)
        (gather_cases defining c) (suites-define s t h.2) (cases-define r c h.3)
    cases-define cs ds h = absurd h

  pub functions-of : (a b : Stmts) → Rows l a b → FunctionsOf (functions a) (functions b)
  unfolding functions
  functions-of a b h = rows-define a b h
