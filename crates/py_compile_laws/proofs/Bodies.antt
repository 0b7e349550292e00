-- In a module without a fault no alternative of a pattern binds a name, in its body or in a function. And each function has
-- parameters of its own.
use Rattle.std.proofs.Common.{◌≡◌, ℕ, Bool, true, false, if◌then◌else◌, List, [], ◌∷◌, ◌++◌, refl}
use Rattle.py_syntax.specs.Functions.{Function, functions, functions_in, opt_functions, arms_functions, clauses_functions, cases_functions, is_docstring, without_docstring}
use Rattle.py_syntax.specs.Tree.{Stmts, no_stmts, stmt, suite, OptSuite, no_suite, has_suite, Arms, no_arms, arm, Clauses, no_clauses, clause, Cases, no_cases, case, StmtKind, expr, assign, aug_assign, pass, break, continue, return, raise, assert, global, import, from, if', while, for, try, def, match}
use Rattle.py_scope.specs.declared.error.ScopeError.{ScopeError}
use Rattle.py_scope.specs.declared.error.ScopeError.TheVariants.{NestedFunction, TwiceNamed}
use Rattle.py_scope.specs.Faults.{Findings, ◌&◌, blame, blame_case, in_loop, in_clause, in_finally, function_place, in_function, findings, kind_findings, function_findings, opt_findings, arms_findings, clauses_findings, cases_findings}
use Rattle.py_scope.specs.Patterns.{has_repeats, alternative_binds, is_twice_named}
use Rattle.py_syntax.specs.Names.{pattern_names}
use Rattle.py_compile.specs.Proper.{AreProper, IsProper, ProperOpt, ProperArms, ProperClauses, ProperCases}
use Rattle.py_compile.specs.ProgramRuns.{AreProperFunctions, EachHasOwnParameters}
use Rattle.py_compile_laws.proofs.Nothing.{front-none, back-none, right_false}
use Rattle.py_compile_laws.proofs.Parameters.{own-parameters}
use Rattle.py_compile_laws.proofs.Patterns.{proper-pattern}

-- no fault is found
abbrev pub Clear : Findings → Type 0
Clear f = f.faults ≡ []

clear-left : (f g : Findings) → Clear (f & g) → Clear f
clear-left f g h = front-none f.faults g.faults h

clear-right : (f g : Findings) → Clear (f & g) → Clear g
clear-right f g h = back-none f.faults g.faults h

not-blamed : (b : Bool) (e : ScopeError) → Clear (blame b e) → b ≡ false
not-blamed true e h = cc
not-blamed false e h = refl

-- ---- patterns of statements

mutual
  proper : (at : _) (b : Stmts) → Clear (findings at b) → AreProper b
  proper at no_stmts h = tt
  proper at (stmt f l k e rest) h = (proper-kind at f k (clear-left (kind_findings at f k) (findings at rest) h), proper at rest (clear-right (kind_findings at f k) (findings at rest) h))

  proper-kind : (at : _) (l : ℕ) (k : StmtKind) → Clear (kind_findings at l k) → IsProper k
  proper-kind at l (expr e) h = tt
  proper-kind at l (assign ts e) h = tt
  proper-kind at l (aug_assign t op e) h = tt
  proper-kind at l pass h = tt
  proper-kind at l break h = tt
  proper-kind at l continue h = tt
  proper-kind at l (return e) h = tt
  proper-kind at l (raise e) h = tt
  proper-kind at l (assert e w) h = tt
  proper-kind at l (global xs) h = tt
  proper-kind at l (import names) h = tt
  proper-kind at l (from m names) h = tt
  proper-kind at l (if' xs o) h = (proper-arms at xs (clear-left (arms_findings at xs) (opt_findings at o) h), proper-opt at o (clear-right (arms_findings at xs) (opt_findings at o) h))
  proper-kind at l (while t (suite f g i b) o) h = (proper (in_loop at) b (clear-left (findings (in_loop at) b) (opt_findings at o) h), proper-opt at o (clear-right (findings (in_loop at) b) (opt_findings at o) h))
  proper-kind at l (for t e (suite f g i b) o) h = (proper (in_loop at) b (clear-left (findings (in_loop at) b) (opt_findings at o) h), proper-opt at o (clear-right (findings (in_loop at) b) (opt_findings at o) h))
  proper-kind at l (try (suite f g i b) cs o fin) h =
      let later = clear-right (findings at b) (clauses_findings at cs & (opt_findings at o & opt_findings (in_finally at) fin)) h in
      let last = clear-right (clauses_findings at cs) (opt_findings at o & opt_findings (in_finally at) fin) later in (
        proper at b (clear-left (findings at b) (clauses_findings at cs & (opt_findings at o & opt_findings (in_finally at) fin)) h),
        proper-clauses at cs (clear-left (clauses_findings at cs) (opt_findings at o & opt_findings (in_finally at) fin) later),
        proper-opt at o (clear-left (opt_findings at o) (opt_findings (in_finally at) fin) last),
        proper-opt (in_finally at) fin (clear-right (opt_findings at o) (opt_findings (in_finally at) fin) last),
      )
  proper-kind at l (def x ps ds c b) h = tt
  proper-kind at l (match e last cs) h = proper-cases at cs h

  proper-opt : (at : _) (o : OptSuite) → Clear (opt_findings at o) → ProperOpt o
  proper-opt at no_suite h = tt
  proper-opt at (has_suite (suite f g i b)) h = proper at b h

  proper-arms : (at : _) (xs : Arms) → Clear (arms_findings at xs) → ProperArms xs
  proper-arms at no_arms h = tt
  proper-arms at (arm t (suite f g i b) rest) h = (proper at b (clear-left (findings at b) (arms_findings at rest) h), proper-arms at rest (clear-right (findings at b) (arms_findings at rest) h))

  proper-clauses : (at : _) (cs : Clauses) → Clear (clauses_findings at cs) → ProperClauses cs
  proper-clauses at no_clauses h = tt
  proper-clauses at (clause k x (suite f g i b) rest) h =
      let inner = clear-right (blame _ _) (findings (in_clause at) b & clauses_findings at rest) h in
      (proper (in_clause at) b (clear-left (findings (in_clause at) b) (clauses_findings at rest) inner), proper-clauses at rest (clear-right (findings (in_clause at) b) (clauses_findings at rest) inner))

  proper-cases : (at : _) (cs : Cases) → Clear (cases_findings at cs) → ProperCases cs
  proper-cases at no_cases h = tt
  proper-cases at (case q g (suite f l i b) rest) h =
      let blamed = clear-left (blame_case f q _ _) (findings at b & cases_findings at rest) h in
      let inner = clear-right (blame_case f q _ _) (findings at b & cases_findings at rest) h in
      let once = not-blamed (is_twice_named q) _ (clear-right (blame _ _) (blame (is_twice_named q) _) blamed) in (
        proper-pattern q (right_false (has_repeats (pattern_names q)) (alternative_binds q) once),
        proper at b (clear-left (findings at b) (cases_findings at rest) inner),
        proper-cases at rest (clear-right (findings at b) (cases_findings at rest) inner),
      )

pub proper-body : (at : _) (b : Stmts) → Clear (findings at b) → AreProper (without_docstring b)
proper-body at no_stmts h = tt
proper-body at (stmt f l k e rest) h = by (is_docstring k)
  where
    by : (d : Bool) → AreProper (if d then rest else stmt f l k e rest)
    by true = proper at rest (clear-right (kind_findings at f k) (findings at rest) h)
    by false = proper at (stmt f l k e rest) h

-- ---- functions

abbrev pub AreSound : List Function → Type 0
AreSound fs = AreProperFunctions fs × EachHasOwnParameters fs

none-at-all : AreSound []
none-at-all = (tt, tt)

both : (fs gs : List Function) → AreSound fs → AreSound gs → AreSound (fs ++ gs)
both [] gs h k = k
both (f ∷ fs) gs h k = let rest = both fs gs (h.0.1, h.1.1) k in ((h.0.0, rest.0), (h.1.0, rest.1))

mutual
  unfolding functions functions_in opt_functions arms_functions clauses_functions cases_functions

  pub each : (at : _) (b : Stmts) → Clear (findings at b) → AreSound (functions b)
  each at no_stmts h = none-at-all
  each at (stmt f l k e rest) h = both (functions_in f k) (functions rest) (each-kind at f k (clear-left (kind_findings at f k) (findings at rest) h)) (each at rest (clear-right (kind_findings at f k) (findings at rest) h))

  each-kind : (at : _) (l : ℕ) (k : StmtKind) → Clear (kind_findings at l k) → AreSound (functions_in l k)
  each-kind at l (expr e) h = none-at-all
  each-kind at l (assign ts e) h = none-at-all
  each-kind at l (aug_assign t op e) h = none-at-all
  each-kind at l pass h = none-at-all
  each-kind at l break h = none-at-all
  each-kind at l continue h = none-at-all
  each-kind at l (return e) h = none-at-all
  each-kind at l (raise e) h = none-at-all
  each-kind at l (assert e w) h = none-at-all
  each-kind at l (global xs) h = none-at-all
  each-kind at l (import names) h = none-at-all
  each-kind at l (from m names) h = none-at-all
  each-kind at l (if' xs o) h = both (arms_functions xs) (opt_functions o) (each-arms at xs (clear-left (arms_findings at xs) (opt_findings at o) h)) (each-opt at o (clear-right (arms_findings at xs) (opt_findings at o) h))
  each-kind at l (while t (suite f g i b) o) h = both (functions b) (opt_functions o) (each (in_loop at) b (clear-left (findings (in_loop at) b) (opt_findings at o) h)) (each-opt at o (clear-right (findings (in_loop at) b) (opt_findings at o) h))
  each-kind at l (for t e (suite f g i b) o) h = both (functions b) (opt_functions o) (each (in_loop at) b (clear-left (findings (in_loop at) b) (opt_findings at o) h)) (each-opt at o (clear-right (findings (in_loop at) b) (opt_findings at o) h))
  each-kind at l (try (suite f g i b) cs o fin) h =
      let later = clear-right (findings at b) (clauses_findings at cs & (opt_findings at o & opt_findings (in_finally at) fin)) h in
      let last = clear-right (clauses_findings at cs) (opt_findings at o & opt_findings (in_finally at) fin) later in
      both (functions b) (clauses_functions cs ++ (opt_functions o ++ opt_functions fin)) (each at b (clear-left (findings at b) (clauses_findings at cs & (opt_findings at o & opt_findings (in_finally at) fin)) h))
      (both (clauses_functions cs) (opt_functions o ++ opt_functions fin) (each-clauses at cs (clear-left (clauses_findings at cs) (opt_findings at o & opt_findings (in_finally at) fin) later))
      (both (opt_functions o) (opt_functions fin) (each-opt at o (clear-left (opt_findings at o) (opt_findings (in_finally at) fin) last)) (each-opt (in_finally at) fin (clear-right (opt_findings at o) (opt_findings (in_finally at) fin) last))))
  each-kind at l (def x ps ds c (suite f g i b)) h =
      let named = clear-right (blame at.function (NestedFunction l)) (blame (has_repeats ps) (TwiceNamed l) & function_findings ps (suite f g i b)) h in
      let own = clear-right (blame (has_repeats ps) (TwiceNamed l)) (function_findings ps (suite f g i b)) named in
      let once = not-blamed (has_repeats ps) (TwiceNamed l) (clear-left (blame (has_repeats ps) (TwiceNamed l)) (function_findings ps (suite f g i b)) named) in
      let inside = proper-body function_place b (clear-right (in_function ps b) (findings function_place b) own) in
      ((inside, tt), (own-parameters (record { line = l; name = x; params = ps; body = b }) once (clear-left (in_function ps b) (findings function_place b) own), tt))
  each-kind at l (match e last cs) h = each-cases at cs h

  each-opt : (at : _) (o : OptSuite) → Clear (opt_findings at o) → AreSound (opt_functions o)
  each-opt at no_suite h = none-at-all
  each-opt at (has_suite (suite f g i b)) h = each at b h

  each-arms : (at : _) (xs : Arms) → Clear (arms_findings at xs) → AreSound (arms_functions xs)
  each-arms at no_arms h = none-at-all
  each-arms at (arm t (suite f g i b) rest) h = both (functions b) (arms_functions rest) (each at b (clear-left (findings at b) (arms_findings at rest) h)) (each-arms at rest (clear-right (findings at b) (arms_findings at rest) h))

  each-clauses : (at : _) (cs : Clauses) → Clear (clauses_findings at cs) → AreSound (clauses_functions cs)
  each-clauses at no_clauses h = none-at-all
  each-clauses at (clause k x (suite f g i b) rest) h =
      let inner = clear-right (blame _ _) (findings (in_clause at) b & clauses_findings at rest) h in
      both (functions b) (clauses_functions rest) (each (in_clause at) b (clear-left (findings (in_clause at) b) (clauses_findings at rest) inner)) (each-clauses at rest (clear-right (findings (in_clause at) b) (clauses_findings at rest) inner))

  each-cases : (at : _) (cs : Cases) → Clear (cases_findings at cs) → AreSound (cases_functions cs)
  each-cases at no_cases h = none-at-all
  each-cases at (case q g (suite f l i b) rest) h =
      let inner = clear-right (blame_case f q _ _) (findings at b & cases_findings at rest) h in
      both (functions b) (cases_functions rest) (each at b (clear-left (findings at b) (cases_findings at rest) inner)) (each-cases at rest (clear-right (findings at b) (cases_findings at rest) inner))
