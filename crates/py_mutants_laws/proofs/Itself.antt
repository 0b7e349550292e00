-- Statements are a version of themselves, at every line.
use Rattle.std.proofs.Common.{ℕ, refl, inl}
use Rattle.py_syntax.specs.Tree.{Stmts, no_stmts, stmt, Suite, suite, OptSuite, no_suite, has_suite, Arms, no_arms, arm, Clauses, no_clauses, clause, Cases, no_cases, case, StmtKind, expr, assign, aug_assign, pass, break, continue, return, raise, assert, global, import, from, if', while, for, try, def, match}
use Rattle.py_mutants_laws.proofs.Versions.{Rows, Kinds, Suites, Opts, ArmsOf, ClausesOf, CasesOf}

module _ (l : ℕ) where
  mutual
    pub rows-self : (a : Stmts) → Rows l a a
    rows-self no_stmts = tt
    rows-self (stmt f a k e r) = (refl, kinds-self f k, rows-self r, refl)

    pub kinds-self : (m : ℕ) (k : StmtKind) → Kinds l m k k
    kinds-self m (expr e) = inl refl
    kinds-self m (assign ts e) = (inl refl, inl refl)
    kinds-self m (aug_assign t op e) = (inl refl, inl refl, inl refl)
    kinds-self m pass = tt
    kinds-self m break = tt
    kinds-self m continue = tt
    kinds-self m (return e) = inl refl
    kinds-self m (raise e) = inl refl
    kinds-self m (assert e w) = (inl refl, inl refl)
    kinds-self m (global xs) = refl
    kinds-self m (import names) = refl
    kinds-self m (from x names) = (refl, refl)
    kinds-self m (if' us o) = (arms-self us, opts-self o)
    kinds-self m (while e s o) = (inl refl, suites-self s, opts-self o)
    kinds-self m (for x e s o) = (inl refl, inl refl, suites-self s, opts-self o)
    kinds-self m (try s cs o fin) =
        (suites-self s, clauses-self cs, opts-self o, opts-self fin)
    kinds-self m (def x ps ds c s) = (refl, refl, inl refl, refl, suites-self s)
    kinds-self m (match e last cs) = (inl refl, refl, cases-self cs)

    pub suites-self : (s : Suite) → Suites l s s
    suites-self (suite f a i b) = (refl, rows-self b, refl)

    pub opts-self : (o : OptSuite) → Opts l o o
    opts-self no_suite = tt
    opts-self (has_suite s) = suites-self s

    pub arms-self : (us : Arms) → ArmsOf l us us
    arms-self no_arms = tt
    arms-self (arm e s r) = (inl refl, suites-self s, arms-self r)

    pub clauses-self : (cs : Clauses) → ClausesOf l cs cs
    clauses-self no_clauses = tt
    clauses-self (clause e x s r) = (inl refl, refl, suites-self s, clauses-self r)

    pub cases-self : (cs : Cases) → CasesOf l cs cs
    cases-self no_cases = tt
    cases-self (case p g s r) = (refl, inl refl, suites-self s, cases-self r)
