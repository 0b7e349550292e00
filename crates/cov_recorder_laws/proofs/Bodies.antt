-- Where the marks of a module are lines of some kind, so are those of each of its units.
use Rattle.std.proofs.Common.{◌≡◌, ℕ, zero, suc, Bool, true, false, if◌then◌else◌, nat_eq, nat_lt, List, [], ◌∷◌, ◌++◌, refl, sym, subst}
use Rattle.std.specs.Prelude.{slice_get}
use Rattle.std.specs.List.{AllByRecursion}
use Rattle.std.proofs.lemmas.Bool.{eqb-true}
use Rattle.py_syntax.specs.Functions.{Function, functions, functions_in, opt_functions, arms_functions, clauses_functions, cases_functions, is_docstring, without_docstring}
use Rattle.py_syntax.specs.Marks.{with_line, in_order, stmts_marks, kind_marks, opt_marks, arms_marks, clauses_marks, cases_marks, body_marks}
use Rattle.py_syntax.specs.Tree.{Stmts, no_stmts, stmt, suite, OptSuite, no_suite, has_suite, Arms, no_arms, arm, Clauses, no_clauses, clause, Cases, no_cases, case, StmtKind, expr, if', while, for, try, def, match}
use Rattle.py_meaning.specs.Modules.{LoadedModule, function_or, unit_in, body_of}
use Rattle.cov_arcs.proofs.Everywhere.{AreOn, left, right}

module _ (P : ℕ → Type 0) where
  -- ---- lines in order

  from_with : (l : ℕ) (ls : List ℕ) → AreOn P (with_line l ls) → P l × AreOn P ls
  from_with l [] h = (h.0, tt)
  from_with l (k ∷ ks) h = go (nat_lt l k) (nat_eq l k) refl h (from_with l ks)
    where
      same : (l k : ℕ) → nat_eq l k ≡ true → P k → P l
      same l k e p = subst P (sym (eqb-true l k e)) p

      go : (a b : Bool) → nat_eq l k ≡ b → AreOn P (if a then l ∷ k ∷ ks else (if b then k ∷ ks else k ∷ with_line l ks)) → (AreOn P (with_line l ks) → P l × AreOn P ks) → P l × AreOn P (k ∷ ks)
      go true b e q later = (q.0, q.1)
      go false true e q later = (same l k e q.0, q)
      go false false e q later = let rest = later q.1 in (rest.0, (q.0, rest.1))

  pub from_in_order : (ls : List ℕ) → AreOn P (in_order ls) → AreOn P ls
  from_in_order [] h = tt
  from_in_order (l ∷ ls) h = let first = from_with l (in_order ls) h in (first.0, from_in_order ls first.1)

  -- ---- bodies

  abbrev pub IsBodyOn : Stmts → Type 0
  IsBodyOn b = AreOn P (stmts_marks (without_docstring b))

  body-on : (b : Stmts) → AreOn P (body_marks b) → IsBodyOn b
  body-on no_stmts h = h
  body-on (stmt f l k e rest) h = go (is_docstring k) h
    where
      go : (b : Bool) → AreOn P (if b then stmts_marks rest else kind_marks f k ++ stmts_marks rest) → AreOn P (stmts_marks (if b then rest else stmt f l k e rest))
      go true q = q
      go false q = q

  abbrev Each : List Function → Type 0
  Each fs = AllByRecursion (λ (f : Function). IsBodyOn f.body) fs

  each-append : (fs gs : List Function) → Each fs → Each gs → Each (fs ++ gs)
  each-append [] gs h k = k
  each-append (f ∷ fs) gs h k = (h.0, each-append fs gs h.1 k)

  mutual
    unfolding functions functions_in opt_functions arms_functions clauses_functions cases_functions

    functions-on : (b : Stmts) → AreOn P (stmts_marks b) → Each (functions b)
    functions-on no_stmts on = tt
    functions-on (stmt f l k e rest) on =
        each-append (functions_in f k) (functions rest) (kind-on f k (left P (kind_marks f k) (stmts_marks rest) on)) (functions-on rest (right P (kind_marks f k) (stmts_marks rest) on))

    opt-on : (o : OptSuite) → AreOn P (opt_marks o) → Each (opt_functions o)
    opt-on no_suite on = tt
    opt-on (has_suite (suite f l i b)) on = functions-on b on

    arms-on : (xs : Arms) → AreOn P (arms_marks xs) → Each (arms_functions xs)
    arms-on no_arms on = tt
    arms-on (arm t (suite f l i b) rest) on =
        each-append (functions b) (arms_functions rest) (functions-on b (left P (stmts_marks b) (arms_marks rest) on.1)) (arms-on rest (right P (stmts_marks b) (arms_marks rest) on.1))

    clauses-on : (cs : Clauses) → AreOn P (clauses_marks cs) → Each (clauses_functions cs)
    clauses-on no_clauses on = tt
    clauses-on (clause k x (suite f l i b) rest) on =
        each-append (functions b) (clauses_functions rest) (functions-on b (left P (stmts_marks b) (clauses_marks rest) on.1)) (clauses-on rest (right P (stmts_marks b) (clauses_marks rest) on.1))

    cases-on : (cs : Cases) → AreOn P (cases_marks cs) → Each (cases_functions cs)
    cases-on no_cases on = tt
    cases-on (case q g (suite f l i b) rest) on =
        each-append (functions b) (cases_functions rest) (functions-on b (left P (stmts_marks b) (cases_marks rest) on.1)) (cases-on rest (right P (stmts_marks b) (cases_marks rest) on.1))

    kind-on : (l : ℕ) (k : StmtKind) → AreOn P (kind_marks l k) → Each (functions_in l k)
    kind-on l (if' xs o) on = each-append (arms_functions xs) (opt_functions o) (arms-on xs (left P (arms_marks xs) (opt_marks o) on)) (opt-on o (right P (arms_marks xs) (opt_marks o) on))
    kind-on l (while t (suite f g i b) o) on =
        each-append (functions b) (opt_functions o) (functions-on b (left P (stmts_marks b) (opt_marks o) on.1)) (opt-on o (right P (stmts_marks b) (opt_marks o) on.1))
    kind-on l (for t e (suite f g i b) o) on =
        each-append (functions b) (opt_functions o) (functions-on b (left P (stmts_marks b) (opt_marks o) on.1)) (opt-on o (right P (stmts_marks b) (opt_marks o) on.1))
    kind-on l (try (suite f g i b) cs o fin) on =
        let later = right P (stmts_marks b) (clauses_marks cs ++ (opt_marks o ++ opt_marks fin)) on.1 in
        let last = right P (clauses_marks cs) (opt_marks o ++ opt_marks fin) later in
        each-append (functions b) (clauses_functions cs ++ (opt_functions o ++ opt_functions fin))
        (functions-on b (left P (stmts_marks b) (clauses_marks cs ++ (opt_marks o ++ opt_marks fin)) on.1))
        (each-append (clauses_functions cs) (opt_functions o ++ opt_functions fin) (clauses-on cs (left P (clauses_marks cs) (opt_marks o ++ opt_marks fin) later))
        (each-append (opt_functions o) (opt_functions fin) (opt-on o (left P (opt_marks o) (opt_marks fin) last)) (opt-on fin (right P (opt_marks o) (opt_marks fin) last))))
    kind-on l (def x ps ds comma (suite f g i b)) on = (body-on b on.1, tt)
    kind-on l (match e header cs) on = cases-on cs on.1
    kind-on l _ on = tt

  -- no function stands in a docstring
  docstring-on : (l : ℕ) (k : StmtKind) → is_docstring k ≡ true → Each (functions_in l k)
  unfolding functions_in
  docstring-on l (expr e) h = tt
  docstring-on l _ h = cc

  module-on : (b : Stmts) → AreOn P (body_marks b) → Each (functions b)
  unfolding functions
  module-on no_stmts on = tt
  module-on (stmt f l k e rest) on = go (is_docstring k) refl on
    where
      go : (b : Bool) → is_docstring k ≡ b → AreOn P (if b then stmts_marks rest else kind_marks f k ++ stmts_marks rest) → Each (functions_in f k ++ functions rest)
      go true is q = each-append (functions_in f k) (functions rest) (docstring-on f k is) (functions-on rest q)
      go false is q = functions-on (stmt f l k e rest) q

  -- each unit of a module
  unit-on : (b : Stmts) → IsBodyOn b → (fs : List Function) → Each fs → (k : ℕ) → IsBodyOn (function_or b (slice_get fs k)).body
  unit-on b h [] each k = h
  unit-on b h (f ∷ fs) each zero = each.0
  unit-on b h (f ∷ fs) each (suc k) = unit-on b h fs each.1 k

  units-on : (b : Stmts) → AreOn P (body_marks b) → (u : ℕ) → IsBodyOn (unit_in b u).body
  units-on b on zero = body-on b on
  units-on b on (suc k) = unit-on b (body-on b on) (functions b) (module-on b on) k

  pub modules-on : (ms : List LoadedModule) → AllByRecursion (λ (m : LoadedModule). AreOn P (body_marks m.body)) ms → (m u : ℕ) → IsBodyOn (unit_in (body_of ms m) u).body
  modules-on [] h m u = units-on no_stmts tt u
  modules-on (x ∷ xs) h zero u = units-on x.body h.0 u
  modules-on (x ∷ xs) h (suc m) u = modules-on xs h.1 m u
