-- What changes is marked: what holds of all marks of the old version holds of its changed lines.
use Rattle.std.proofs.Common.{◌≡◌, ℕ, nat_eq, ◌&&◌, Bool, true, false, List, [], ◌∷◌, ◌++◌, refl, subst, if◌then◌else◌}
use Rattle.std.specs.List.{AllByRecursion}
use Rattle.py_syntax.specs.Functions.{Function, functions, defining, own_function, is_docstring, without_docstring}
use Rattle.py_syntax.specs.Gathering.{gather, gather_kind, gather_opt, gather_arms, gather_clauses, gather_cases}
use Rattle.py_syntax.specs.Marks.{own_mark, stmts_marks, kind_marks, suite_marks, opt_marks, arms_marks, clauses_marks, cases_marks, body_marks}
use Rattle.py_syntax.specs.Names.{local_names}
use Rattle.py_syntax.specs.Tree.{Stmts, no_stmts, stmt, Suite, suite, OptSuite, no_suite, has_suite, Arms, no_arms, arm, Clauses, no_clauses, clause, Cases, no_cases, case, StmtKind, expr, if', while, for, try, def, match}
use Rattle.py_text.specs.Comparison.{is_same_text}
use Rattle.py_changes.specs.Same.{same_bool, same_option, same_expr, same_maybe, same_pattern}
use Rattle.py_changes.specs.Changed.{also, all_marks, same_simple, same_heads, has_docstring, fits_suite, fits_opt, fits_arms, fits_clauses, fits_cases, fits_body, same_names, same_defs, changed_header, Lines, where_not, by_parts, changed_each, changed_kind, changed_suite, changed_opt, changed_arms, changed_clauses, changed_cases, changed_body, changed_function, changed_functions, changed_module}
use Rattle.py_changes.proofs.Bodies.{marks-of-body}
use Rattle.py_changes.proofs.Lists.{all-left, all-right, all-joined}

module _ (P : ℕ → Type 0) where
  -- of each line
  abbrev On : List ℕ → Type 0
  On ls = AllByRecursion P ls

  parts-on : (x : Bool) (parts whole : Lines) → On parts.0 → On whole.0
      → On (by_parts x parts whole).0
  parts-on true parts whole h k = h
  parts-on false parts whole h k = k

  where-on : (x : Bool) (lines : Lines) → On lines.0 → On (where_not x lines).0
  where-on true lines h = tt
  where-on false lines h = h

  header-on : (same : Bool) (l m : ℕ) → P l → On (changed_header same l m).0
  header-on same l m h = where-on (nat_eq l m && same) (l ∷ [], m ∷ []) (h, tt)

  -- ---- statements

  own-on : (l : ℕ) (k : StmtKind) → On (kind_marks l k) → On (own_mark l k)
  own-on l (if' xs o) h = tt
  own-on l (while t s o) h = (h.0, tt)
  own-on l (for t e s o) h = (h.0, tt)
  own-on l (try s cs o fin) h = (h.0, tt)
  own-on l (def x ps ds c s) h = (h.0, tt)
  own-on l (match e last cs) h = (h.0, tt)
  own-on l k h = h

  row-on : (b d : Stmts) (x : Bool) → On (changed_each b d).0 → On (stmts_marks b)
      → On (by_parts x (changed_each b d) (stmts_marks b, stmts_marks d)).0
  row-on b d x h k = parts-on x (changed_each b d) (stmts_marks b, stmts_marks d) h k

  mutual
    each-on : (a b : Stmts) → On (stmts_marks a) → On (changed_each a b).0
    each-on no_stmts b h = tt
    each-on (stmt l x k e r) no_stmts h = tt
    each-on (stmt l x k e r) (stmt m y j f s) h =
        all-joined P (changed_kind l k j).0 (changed_each r s).0
        (kind-on l k j (all-left P (kind_marks l k) (stmts_marks r) h))
        (each-on r s (all-right P (kind_marks l k) (stmts_marks r) h))

    kind-on : (l : ℕ) (k j : StmtKind) → On (kind_marks l k) → On (changed_kind l k j).0
    kind-on l (if' us o) (if' bs q) h =
        parts-on (fits_arms us bs && fits_opt o q) (also (changed_arms us bs) (changed_opt o q))
        (all_marks l (if' us o) (if' bs q))
        (all-joined P (changed_arms us bs).0 (changed_opt o q).0
        (arms-on us bs (all-left P (arms_marks us) (opt_marks o) h))
        (opt-on o q (all-right P (arms_marks us) (opt_marks o) h))) h
    kind-on l (while e s o) (while f t q) h =
        parts-on (fits_suite s t && fits_opt o q)
        (also (changed_header (same_expr e f) l l) (also (changed_suite s t) (changed_opt o q)))
        (all_marks l (while e s o) (while f t q))
        (all-joined P _ _ (header-on (same_expr e f) l l h.0)
        (all-joined P (changed_suite s t).0 (changed_opt o q).0
        (suite-on s t (all-left P (suite_marks s) (opt_marks o) h.1))
        (opt-on o q (all-right P (suite_marks s) (opt_marks o) h.1)))) h
    kind-on l (for x e s o) (for y f t q) h =
        parts-on (fits_suite s t && fits_opt o q)
        (also (changed_header (same_expr x y && same_expr e f) l l)
        (also (changed_suite s t) (changed_opt o q)))
        (all_marks l (for x e s o) (for y f t q))
        (all-joined P _ _ (header-on (same_expr x y && same_expr e f) l l h.0)
        (all-joined P (changed_suite s t).0 (changed_opt o q).0
        (suite-on s t (all-left P (suite_marks s) (opt_marks o) h.1))
        (opt-on o q (all-right P (suite_marks s) (opt_marks o) h.1)))) h
    kind-on l (try s cs o fin) (try t ds q gin) h =
        let later = all-right P (suite_marks s) (clauses_marks cs
        ++ (opt_marks o ++ opt_marks fin)) h.1 in
        let last = all-right P (clauses_marks cs) (opt_marks o ++ opt_marks fin) later in
        parts-on (fits_suite s t && (fits_clauses cs ds && (fits_opt o q && fits_opt fin gin)))
        (also (changed_suite s t)
        (also (changed_clauses cs ds) (also (changed_opt o q) (changed_opt fin gin))))
        (all_marks l (try s cs o fin) (try t ds q gin))
        (all-joined P (changed_suite s t).0 _
        (suite-on s t
        (all-left P (suite_marks s) (clauses_marks cs ++ (opt_marks o ++ opt_marks fin)) h.1))
        (all-joined P (changed_clauses cs ds).0 _
        (clauses-on cs ds (all-left P (clauses_marks cs) (opt_marks o ++ opt_marks fin) later))
        (all-joined P (changed_opt o q).0 (changed_opt fin gin).0
        (opt-on o q (all-left P (opt_marks o) (opt_marks fin) last))
        (opt-on fin gin (all-right P (opt_marks o) (opt_marks fin) last))))) h
    kind-on l (match e a cs) (match f b ds) h =
        parts-on (fits_cases cs ds)
        (also (changed_header (same_expr e f) l l) (changed_cases cs ds))
        (all_marks l (match e a cs) (match f b ds))
        (all-joined P _ (changed_cases cs ds).0 (header-on (same_expr e f) l l h.0)
        (cases-on cs ds h.1)) h
    kind-on l k j h = where-on (same_simple k j) (own_mark l k, own_mark l j) (own-on l k h)

    suite-on : (s t : Suite) → On (suite_marks s) → On (changed_suite s t).0
    suite-on (suite l a i b) (suite m c j d) h = row-on b d (same_heads b d) (each-on b d h) h

    opt-on : (o q : OptSuite) → On (opt_marks o) → On (changed_opt o q).0
    opt-on no_suite q h = tt
    opt-on (has_suite s) no_suite h = tt
    opt-on (has_suite s) (has_suite t) h = suite-on s t h

    arms-on : (us bs : Arms) → On (arms_marks us) → On (changed_arms us bs).0
    arms-on no_arms bs h = tt
    arms-on (arm e (suite l a i b) r) no_arms h = tt
    arms-on (arm e (suite l a i b) r) (arm f (suite m c j d) q) h =
        all-joined P _ _ (header-on (same_expr e f) l m h.0)
        (all-joined P _ _
        (row-on b d (same_heads b d) (each-on b d (all-left P (stmts_marks b) (arms_marks r) h.1))
        (all-left P (stmts_marks b) (arms_marks r) h.1))
        (arms-on r q (all-right P (stmts_marks b) (arms_marks r) h.1)))

    clauses-on : (cs ds : Clauses) → On (clauses_marks cs) → On (changed_clauses cs ds).0
    clauses-on no_clauses ds h = tt
    clauses-on (clause e x (suite l a i b) r) no_clauses h = tt
    clauses-on (clause e x (suite l a i b) r) (clause f y (suite m c j d) q) h =
        all-joined P _ _ (header-on (same_maybe e f && same_option is_same_text x y) l m h.0)
        (all-joined P _ _
        (row-on b d (same_heads b d)
        (each-on b d (all-left P (stmts_marks b) (clauses_marks r) h.1))
        (all-left P (stmts_marks b) (clauses_marks r) h.1))
        (clauses-on r q (all-right P (stmts_marks b) (clauses_marks r) h.1)))

    cases-on : (cs ds : Cases) → On (cases_marks cs) → On (changed_cases cs ds).0
    cases-on no_cases ds h = tt
    cases-on (case p g (suite l a i b) r) no_cases h = tt
    cases-on (case p g (suite l a i b) r) (case q u (suite m c j d) t) h =
        all-joined P _ _ (header-on (same_pattern p q && same_maybe g u) l m h.0)
        (all-joined P _ _
        (row-on b d (same_heads b d) (each-on b d (all-left P (stmts_marks b) (cases_marks r) h.1))
        (all-left P (stmts_marks b) (cases_marks r) h.1))
        (cases-on r t (all-right P (stmts_marks b) (cases_marks r) h.1)))

  -- ---- functions

  -- the line of a `def` and the marks of its body
  abbrev FunctionOn : Function → Type 0
  FunctionOn f = P f.line × On (body_marks f.body)

  -- of each of these functions
  abbrev Each : List Function → Type 0
  Each fs = AllByRecursion FunctionOn fs

  mutual
    functions-on : (a : Stmts) → On (stmts_marks a) → Each (gather defining a)
    functions-on no_stmts h = tt
    functions-on (stmt l x k e r) h =
        all-joined FunctionOn (gather_kind defining (own_function l k) k) (gather defining r)
        (functions-of-kind l k (all-left P (kind_marks l k) (stmts_marks r) h))
        (functions-on r (all-right P (kind_marks l k) (stmts_marks r) h))

    functions-of-kind : (l : ℕ) (k : StmtKind) → On (kind_marks l k)
        → Each (gather_kind defining (own_function l k) k)
    functions-of-kind l (if' us o) h =
        all-joined FunctionOn (gather_arms defining us) (gather_opt defining o)
        (functions-of-arms us (all-left P (arms_marks us) (opt_marks o) h))
        (functions-of-opt o (all-right P (arms_marks us) (opt_marks o) h))
    functions-of-kind l (while e (suite f g i b) o) h =
        all-joined FunctionOn (gather defining b) (gather_opt defining o)
        (functions-on b (all-left P (stmts_marks b) (opt_marks o) h.1))
        (functions-of-opt o (all-right P (stmts_marks b) (opt_marks o) h.1))
    functions-of-kind l (for x e (suite f g i b) o) h =
        all-joined FunctionOn (gather defining b) (gather_opt defining o)
        (functions-on b (all-left P (stmts_marks b) (opt_marks o) h.1))
        (functions-of-opt o (all-right P (stmts_marks b) (opt_marks o) h.1))
    functions-of-kind l (try (suite f g i b) cs o fin) h =
        let later = all-right P (stmts_marks b) (clauses_marks cs
        ++ (opt_marks o ++ opt_marks fin)) h.1 in
        let last = all-right P (clauses_marks cs) (opt_marks o ++ opt_marks fin) later in
        all-joined FunctionOn (gather defining b) _
        (functions-on b
        (all-left P (stmts_marks b) (clauses_marks cs ++ (opt_marks o ++ opt_marks fin)) h.1))
        (all-joined FunctionOn (gather_clauses defining cs) _
        (functions-of-clauses cs
        (all-left P (clauses_marks cs) (opt_marks o ++ opt_marks fin) later))
        (all-joined FunctionOn (gather_opt defining o) (gather_opt defining fin)
        (functions-of-opt o (all-left P (opt_marks o) (opt_marks fin) last))
        (functions-of-opt fin (all-right P (opt_marks o) (opt_marks fin) last))))
    functions-of-kind l (def x ps ds c (suite f g i b)) h = ((h.0, h.1), tt)
    functions-of-kind l (match e last cs) h = functions-of-cases cs h.1
    functions-of-kind l k h = tt

    functions-of-opt : (o : OptSuite) → On (opt_marks o) → Each (gather_opt defining o)
    functions-of-opt no_suite h = tt
    functions-of-opt (has_suite (suite f g i b)) h = functions-on b h

    functions-of-arms : (us : Arms) → On (arms_marks us) → Each (gather_arms defining us)
    functions-of-arms no_arms h = tt
    functions-of-arms (arm e (suite l a i b) r) h =
        all-joined FunctionOn (gather defining b) (gather_arms defining r)
        (functions-on b (all-left P (stmts_marks b) (arms_marks r) h.1))
        (functions-of-arms r (all-right P (stmts_marks b) (arms_marks r) h.1))

    functions-of-clauses : (cs : Clauses) → On (clauses_marks cs)
        → Each (gather_clauses defining cs)
    functions-of-clauses no_clauses h = tt
    functions-of-clauses (clause e x (suite l a i b) r) h =
        all-joined FunctionOn (gather defining b) (gather_clauses defining r)
        (functions-on b (all-left P (stmts_marks b) (clauses_marks r) h.1))
        (functions-of-clauses r (all-right P (stmts_marks b) (clauses_marks r) h.1))

    functions-of-cases : (cs : Cases) → On (cases_marks cs) → Each (gather_cases defining cs)
    functions-of-cases no_cases h = tt
    functions-of-cases (case p g (suite l a i b) r) h =
        all-joined FunctionOn (gather defining b) (gather_cases defining r)
        (functions-on b (all-left P (stmts_marks b) (cases_marks r) h.1))
        (functions-of-cases r (all-right P (stmts_marks b) (cases_marks r) h.1))

  -- ---- bodies and modules

  body-on : (a b : Stmts) → On (body_marks a) → On (changed_body a b).0
  body-on a b h =
      parts-on (same_heads a b && same_bool (has_docstring a) (has_docstring b))
      (changed_each (without_docstring a) (without_docstring b)) (body_marks a, body_marks b)
      (each-on (without_docstring a) (without_docstring b) (subst On (marks-of-body a) h)) h

  function-on : (f g : Function) → FunctionOn f → On (changed_function f g).0
  function-on f g h =
      all-joined P _ _
      (parts-on (same_names (local_names f.params f.body) (local_names g.params g.body))
      (changed_body f.body g.body) (body_marks f.body, body_marks g.body)
      (body-on f.body g.body h.1) h.1)
      (where-on (fits_body f.body g.body)
      (f.line ∷ body_marks f.body, g.line ∷ body_marks g.body) h)

  each-function-on : (fs gs : List Function) → Each fs → On (changed_functions fs gs).0
  each-function-on [] gs h = tt
  each-function-on (f ∷ fs) [] h = tt
  each-function-on (f ∷ fs) (g ∷ gs) h =
      all-joined P (changed_function f g).0 (changed_functions fs gs).0 (function-on f g h.0)
      (each-function-on fs gs h.1)

  -- the functions of a body, whose docstring defines none
  led-functions : (l b : ℕ) (k : StmtKind) (e : _) (r : Stmts) → is_docstring k ≡ true
      → Each (gather defining r) → Each (gather defining (stmt l b k e r))
  led-functions l b (expr x) e r is h = h
  led-functions l b _ e r is h = absurd cc

  functions-of-body : (a : Stmts) → On (body_marks a) → Each (functions a)
  unfolding functions
  functions-of-body no_stmts h = tt
  functions-of-body (stmt l b k e r) h = go (is_docstring k) refl h
    where
      go : (x : Bool) → is_docstring k ≡ x
          → On (if x then stmts_marks r else kind_marks l k ++ stmts_marks r)
          → Each (gather defining (stmt l b k e r))
      go true is q = led-functions l b k e r is (functions-on r q)
      go false is q = functions-on (stmt l b k e r) q

  pub module-on : (a b : Stmts) → On (body_marks a) → On (changed_module a b).0
  module-on a b h =
      parts-on (same_defs (functions a) (functions b))
      (also (changed_body a b) (changed_functions (functions a) (functions b)))
      (body_marks a, body_marks b)
      (all-joined P (changed_body a b).0 (changed_functions (functions a) (functions b)).0
      (body-on a b h) (each-function-on (functions a) (functions b) (functions-of-body a h))) h
