-- The bodies of a module without a fault: that of the module, and those of its functions.
use Rattle.std.proofs.Common.{◌≡◌, ℕ, zero, suc, Bool, true, false, if◌then◌else◌, IsTrue, List, [], ◌∷◌, ◌++◌, slice_get, refl, subst}
use Rattle.py_scope.specs.Faults.{◌&◌, blame, in_function, in_loop, in_clause as clause_stand, in_finally, function_place, findings, kind_findings, opt_findings, arms_findings, clauses_findings, cases_findings, blame_case, function_findings}
use Rattle.py_syntax.specs.Functions.{Function, functions, functions_in, opt_functions, arms_functions, clauses_functions, cases_functions, is_docstring, without_docstring}
use Rattle.py_syntax.specs.Marks.{stmts_marks, kind_marks, opt_marks, arms_marks, clauses_marks, cases_marks, body_marks}
use Rattle.py_syntax.specs.Tree.{Stmts, no_stmts, stmt, suite, OptSuite, no_suite, has_suite, Arms, no_arms, arm, Clauses, no_clauses, clause, Cases, no_cases, case, StmtKind, expr, if', while, for, try, def, match}
use Rattle.py_meaning.specs.Calls.{Calls}
use Rattle.py_meaning.specs.Modules.{function_or, unit_in}
use Rattle.py_meaning.specs.Places.{Place}
use Rattle.py_meaning.specs.Statements.{exec}
use Rattle.py_prediction_laws.proofs.Members.{untrue, Lines, lines-tail, lines-left, lines-right}
use Rattle.py_prediction_laws.proofs.Escapes.{Ends, Clear, clear-left, clear-right, ends-exec}

-- a body whose lines are from 1 on, and that no `break` leaves
abbrev pub IsFine : Stmts → Type 0
IsFine b = Lines (stmts_marks (without_docstring b)) × ((c : Calls) (p : Place) → Ends false (exec c p (without_docstring b)))

without-lines : (b : Stmts) → Lines (body_marks b) → Lines (stmts_marks (without_docstring b))
without-lines no_stmts h = h
without-lines (stmt f l k e rest) h = go (is_docstring k) h
  where
    go : (b : Bool) → Lines (if b then stmts_marks rest else kind_marks f k ++ stmts_marks rest) → Lines (stmts_marks (if b then rest else stmt f l k e rest))
    go true q = q
    go false q = q

without-clear : (at : _) (b : Stmts) → Clear (findings at b) → Clear (findings at (without_docstring b))
without-clear at no_stmts h = h
without-clear at (stmt f l k e rest) h = go (is_docstring k)
  where
    go : (b : Bool) → Clear (findings at (if b then rest else stmt f l k e rest))
    go true = clear-right (kind_findings at f k) (findings at rest) h
    go false = h

pub fine : (at : _) (b : Stmts) → Lines (body_marks b) → Clear (findings at b) → at.looped ≡ false → IsFine b
fine at b lines clear free = (without-lines b lines, λ c p. subst (λ l. Ends l (exec c p (without_docstring b))) free (ends-exec c p at (without_docstring b) (without-clear at b clear)))

abbrev pub Each : List Function → Type 0
Each [] = Unit {0}
Each (f ∷ fs) = IsFine f.body × Each fs

each-append : (fs gs : List Function) → Each fs → Each gs → Each (fs ++ gs)
each-append [] gs h k = k
each-append (f ∷ fs) gs h k = (h.0, each-append fs gs h.1 k)

mutual
  unfolding functions functions_in opt_functions arms_functions clauses_functions cases_functions

  functions-fine : (at : _) (b : Stmts) → Lines (stmts_marks b) → Clear (findings at b) → Each (functions b)
  functions-fine at no_stmts lines h = tt
  functions-fine at (stmt f l k e rest) lines h =
      each-append (functions_in f k) (functions rest) (kind-fine at f k (lines-left (kind_marks f k) (stmts_marks rest) lines) (clear-left (kind_findings at f k) (findings at rest) h))
      (functions-fine at rest (lines-right (kind_marks f k) (stmts_marks rest) lines) (clear-right (kind_findings at f k) (findings at rest) h))

  opt-fine : (at : _) (o : OptSuite) → Lines (opt_marks o) → Clear (opt_findings at o) → Each (opt_functions o)
  opt-fine at no_suite lines h = tt
  opt-fine at (has_suite (suite f l i b)) lines h = functions-fine at b lines h

  arms-fine : (at : _) (xs : Arms) → Lines (arms_marks xs) → Clear (arms_findings at xs) → Each (arms_functions xs)
  arms-fine at no_arms lines h = tt
  arms-fine at (arm t (suite f l i b) rest) lines h =
      each-append (functions b) (arms_functions rest) (functions-fine at b (lines-left (stmts_marks b) (arms_marks rest) (lines-tail lines)) (clear-left (findings at b) (arms_findings at rest) h))
      (arms-fine at rest (lines-right (stmts_marks b) (arms_marks rest) (lines-tail lines)) (clear-right (findings at b) (arms_findings at rest) h))

  clauses-fine : (at : _) (cs : Clauses) → Lines (clauses_marks cs) → Clear (clauses_findings at cs) → Each (clauses_functions cs)
  clauses-fine at no_clauses lines h = tt
  clauses-fine at (clause k x (suite f l i b) rest) lines h =
      let inner = clear-right (blame _ _) (findings (clause_stand at) b & clauses_findings at rest) h in
      each-append (functions b) (clauses_functions rest) (functions-fine (clause_stand at) b (lines-left (stmts_marks b) (clauses_marks rest) (lines-tail lines)) (clear-left (findings (clause_stand at) b) (clauses_findings at rest) inner))
      (clauses-fine at rest (lines-right (stmts_marks b) (clauses_marks rest) (lines-tail lines)) (clear-right (findings (clause_stand at) b) (clauses_findings at rest) inner))

  cases-fine : (at : _) (cs : Cases) → Lines (cases_marks cs) → Clear (cases_findings at cs) → Each (cases_functions cs)
  cases-fine at no_cases lines h = tt
  cases-fine at (case q g (suite f l i b) rest) lines h =
      let inner = clear-right (blame_case f q _ _) (findings at b & cases_findings at rest) h in
      each-append (functions b) (cases_functions rest) (functions-fine at b (lines-left (stmts_marks b) (cases_marks rest) (lines-tail lines)) (clear-left (findings at b) (cases_findings at rest) inner))
      (cases-fine at rest (lines-right (stmts_marks b) (cases_marks rest) (lines-tail lines)) (clear-right (findings at b) (cases_findings at rest) inner))

  kind-fine : (at : _) (l : ℕ) (k : StmtKind) → Lines (kind_marks l k) → Clear (kind_findings at l k) → Each (functions_in l k)
  kind-fine at l (if' xs o) lines h =
      each-append (arms_functions xs) (opt_functions o) (arms-fine at xs (lines-left (arms_marks xs) (opt_marks o) lines) (clear-left (arms_findings at xs) (opt_findings at o) h))
      (opt-fine at o (lines-right (arms_marks xs) (opt_marks o) lines) (clear-right (arms_findings at xs) (opt_findings at o) h))
  kind-fine at l (while t (suite f g i b) o) lines h =
      each-append (functions b) (opt_functions o) (functions-fine (in_loop at) b (lines-left (stmts_marks b) (opt_marks o) (lines-tail lines)) (clear-left (findings (in_loop at) b) (opt_findings at o) h))
      (opt-fine at o (lines-right (stmts_marks b) (opt_marks o) (lines-tail lines)) (clear-right (findings (in_loop at) b) (opt_findings at o) h))
  kind-fine at l (for t e (suite f g i b) o) lines h =
      each-append (functions b) (opt_functions o) (functions-fine (in_loop at) b (lines-left (stmts_marks b) (opt_marks o) (lines-tail lines)) (clear-left (findings (in_loop at) b) (opt_findings at o) h))
      (opt-fine at o (lines-right (stmts_marks b) (opt_marks o) (lines-tail lines)) (clear-right (findings (in_loop at) b) (opt_findings at o) h))
  kind-fine at l (try (suite f g i b) cs o fin) lines h =
      let inner = lines-tail lines in
      let later = lines-right (stmts_marks b) (clauses_marks cs ++ (opt_marks o ++ opt_marks fin)) inner in
      let last = lines-right (clauses_marks cs) (opt_marks o ++ opt_marks fin) later in
      let after = clear-right (findings at b) (clauses_findings at cs & (opt_findings at o & opt_findings (in_finally at) fin)) h in
      let end = clear-right (clauses_findings at cs) (opt_findings at o & opt_findings (in_finally at) fin) after in
      each-append (functions b) (clauses_functions cs ++ (opt_functions o ++ opt_functions fin))
      (functions-fine at b (lines-left (stmts_marks b) (clauses_marks cs ++ (opt_marks o ++ opt_marks fin)) inner) (clear-left (findings at b) (clauses_findings at cs & (opt_findings at o & opt_findings (in_finally at) fin)) h))
      (each-append (clauses_functions cs) (opt_functions o ++ opt_functions fin)
      (clauses-fine at cs (lines-left (clauses_marks cs) (opt_marks o ++ opt_marks fin) later) (clear-left (clauses_findings at cs) (opt_findings at o & opt_findings (in_finally at) fin) after))
      (each-append (opt_functions o) (opt_functions fin)
      (opt-fine at o (lines-left (opt_marks o) (opt_marks fin) last) (clear-left (opt_findings at o) (opt_findings (in_finally at) fin) end))
      (opt-fine (in_finally at) fin (lines-right (opt_marks o) (opt_marks fin) last) (clear-right (opt_findings at o) (opt_findings (in_finally at) fin) end))))
  kind-fine at l (def x ps ds comma (suite f g i b)) lines h =
      let named = clear-right (blame at.function _) (blame _ _ & function_findings ps (suite f g i b)) h in
      let own = clear-right (blame _ _) (function_findings ps (suite f g i b)) named in
      (fine function_place b (lines-tail lines) (clear-right (in_function ps b) (findings function_place b) own) refl, tt)
  kind-fine at l (match e header cs) lines h = cases-fine at cs (lines-tail lines) h
  kind-fine at l _ lines h = tt

-- no function stands in a docstring
docstring-fine : (l : ℕ) (k : StmtKind) → IsTrue (is_docstring k) → Each (functions_in l k)
unfolding functions_in
docstring-fine l (expr e) h = tt
docstring-fine l _ h = absurd (untrue h)

module-fine : (at : _) (b : Stmts) → Lines (body_marks b) → Clear (findings at b) → Each (functions b)
unfolding functions
module-fine at no_stmts lines h = tt
module-fine at (stmt f l k e rest) lines h = go (is_docstring k) refl lines
  where
    go : (b : Bool) → is_docstring k ≡ b → Lines (if b then stmts_marks rest else kind_marks f k ++ stmts_marks rest) → Each (functions_in f k ++ functions rest)
    go true is q = each-append (functions_in f k) (functions rest) (docstring-fine f k is) (functions-fine at rest q (clear-right (kind_findings at f k) (findings at rest) h))
    go false is q = functions-fine at (stmt f l k e rest) q h

-- each unit of a module
unit-fine : (b : Stmts) → IsFine b → (fs : List Function) → Each fs → (k : ℕ) → IsFine (function_or b (slice_get fs k)).body
unit-fine b h [] each k = h
unit-fine b h (f ∷ fs) each zero = each.0
unit-fine b h (f ∷ fs) each (suc k) = unit-fine b h fs each.1 k

pub units-fine : (at : _) (b : Stmts) → Lines (body_marks b) → Clear (findings at b) → at.looped ≡ false → (u : ℕ) → IsFine (unit_in b u).body
units-fine at b lines h free zero = fine at b lines h free
units-fine at b lines h free (suc k) = unit-fine b (fine at b lines h free) (functions b) (module-fine at b lines h) k
