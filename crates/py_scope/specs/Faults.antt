-- The faults of a module and the names of its functions.
--     module_place .. in_finally        where a statement stands
--     Findings, nothing, ◌&◌, blame     what is found, and one thing after another
--     late_globals                      names that are declared `global` after they were used
--     in_module                         the declarations of a module
--     names_of, in_function             a function
--     blame_case                        the header of a case
--     findings, kind_findings           what is found in statements; suite_findings and the like
--                                       for what stands in them
--     faults_of, functions_of           of a whole module
--     IsWellFormed                      a module without a fault
use Rattle.std.specs.Prelude.{◌≡◌, ℕ, Bool, true, false, not, ◌&&◌, ◌||◌, if◌then◌else◌, List, [], ◌∷◌, ◌++◌, is_none, is_some}
use Rattle.py_syntax.specs.Tree.{Text, Pattern, Stmts, no_stmts, stmt, Suite, suite, OptSuite, no_suite, has_suite, Arms, no_arms, arm, Clauses, no_clauses, clause, Cases, no_cases, case, StmtKind, expr, assign, aug_assign, pass, break, continue, return, raise, assert, global, import, from, if', while, for, try, def, match}
use Rattle.py_syntax.specs.Names.{is_among, add_name, distinct, assigned_names, declared_names}
use Rattle.py_scope.specs.declared.error.ScopeError.{ScopeError}
use Rattle.py_scope.specs.declared.error.ScopeError.TheVariants.{BreakOutside, ReturnOutside, GlobalAfterUse, NestedFunction, EarlyIrrefutable, TwiceNamed}
use Rattle.py_scope.specs.declared.place.Place.{Place}
use Rattle.py_scope.specs.Patterns.{has_repeats, has_early, is_twice_named}
use Rattle.py_syntax.specs.Patterns.{is_irrefutable}
use Rattle.py_scope.specs.Occurrences.{occurrences}
use Rattle.py_scope.specs.declared.occurrence.Occurrence.{Occurrence}
use Rattle.py_scope.specs.declared.occurrence.Occurrence.TheVariants.{Uses, Assigns, Declares}
use Rattle.py_scope.specs.Scopes.{Names}

-- Where a statement stands: in a function, in a loop of its function, and in an `except` clause of
-- its function but in no `finally` suite inside that clause.

-- at the top of a module
abbrev pub module_place : Place
module_place = record { function = false; looped = false; handled = false }

-- at the top of a function
abbrev pub function_place : Place
function_place = record { function = true; looped = false; handled = false }

-- in the body of a loop there
abbrev pub in_loop : Place → Place
in_loop p = record p { looped = true }

-- in an `except` clause there
abbrev pub in_clause : Place → Place
in_clause p = record p { handled = true }

-- in a `finally` suite there
abbrev pub in_finally : Place → Place
in_finally p = record p { handled = false }

-- faults, and the names of functions in the order of the text
pub record Findings : Type 0 where
  pub faults : List ScopeError
  pub functions : List Names

-- nothing is found
abbrev pub nothing : Findings
nothing = record { faults = []; functions = [] }

-- one finding after another
infixr 5 ◌&◌
abbrev pub ◌&◌ : Findings → Findings → Findings
f & g = record { faults = f.faults ++ g.faults; functions = f.functions ++ g.functions }

-- a fault, where something holds
abbrev pub fault_if : Bool → ScopeError → List ScopeError
fault_if b e = if b then e ∷ [] else []

-- the same as a finding
abbrev pub blame : Bool → ScopeError → Findings
blame b e = record { faults = fault_if b e; functions = [] }

-- A name is declared `global` after it was used: the names that are used already, and then these
-- occurrences.
abbrev pub late_globals : List Text → List Occurrence → List ScopeError
late_globals used [] = []
late_globals used (Uses x ∷ os) = late_globals (add_name used x) os
late_globals used (Assigns x ∷ os) = late_globals (add_name used x) os
late_globals used (Declares x line ∷ os) =
    fault_if (is_among used x) (GlobalAfterUse line) ++ late_globals used os

-- what is found in the declarations of a module
abbrev pub in_module : Stmts → Findings
in_module b = record { faults = late_globals [] (occurrences b); functions = [] }

-- a function with these parameters and this body
abbrev pub names_of : List Text → Stmts → Names
names_of params b = record {
  assigned = distinct (params ++ assigned_names b);
  globals = distinct (declared_names b);
}

-- what is found in the names of a function
abbrev pub in_function : List Text → Stmts → Findings
in_function params b = record {
  faults = late_globals (distinct params) (occurrences b);
  functions = names_of params b ∷ [];
}

-- there is a clause
abbrev pub has_clause : Clauses → Bool
has_clause no_clauses = false
has_clause (clause e x b cs) = true

-- there is a case
abbrev pub has_case : Cases → Bool
has_case no_cases = false
has_case (case p g b cs) = true

-- The faults of a case header on a line; the last arguments say whether it has a guard and whether
-- another case follows.
abbrev pub blame_case : ℕ → Pattern → Bool → Bool → Findings
blame_case line p guarded follows =
    blame ((not guarded && (is_irrefutable p && follows)) || has_early p) (EarlyIrrefutable line) &
    blame (is_twice_named p) (TwiceNamed line)

abbrev mutual
  -- of statements that stand there
  pub findings : Place → Stmts → Findings
  findings at no_stmts = nothing
  findings at (stmt first last k e ss) = kind_findings at first k & findings at ss

  -- of a statement with this first line
  pub kind_findings : Place → ℕ → StmtKind → Findings
  kind_findings at line (expr e) = nothing
  kind_findings at line (assign ts e) = nothing
  kind_findings at line (aug_assign place op e) = nothing
  kind_findings at line pass = nothing
  kind_findings at line break = blame (not at.looped) (BreakOutside line)
  kind_findings at line continue = blame (not at.looped) (BreakOutside line)
  kind_findings at line (return e) = blame (not at.function) (ReturnOutside line)
  kind_findings at line (raise e) = blame (is_none e && not at.handled) (ReturnOutside line)
  kind_findings at line (assert e why) = nothing
  kind_findings at line (global xs) = nothing
  kind_findings at line (import names) = nothing
  kind_findings at line (from m names) = nothing
  kind_findings at line (if' arms o) = arms_findings at arms & opt_findings at o
  kind_findings at line (while t b o) = suite_findings (in_loop at) b & opt_findings at o
  kind_findings at line (for t e b o) = suite_findings (in_loop at) b & opt_findings at o
  kind_findings at line (try b cs o f) =
      suite_findings at b &
      (clauses_findings at cs & (opt_findings at o & opt_findings (in_finally at) f))
  kind_findings at line (def x ps ds c b) =
      blame at.function (NestedFunction line) &
      (blame (has_repeats ps) (TwiceNamed line) & function_findings ps b)
  kind_findings at line (match e last cs) = cases_findings at cs

  -- of a suite
  pub suite_findings : Place → Suite → Findings
  suite_findings at (suite first last inline b) = findings at b

  -- of a function with these parameters, and of its suite
  pub function_findings : List Text → Suite → Findings
  function_findings params (suite first last inline b) =
      in_function params b & findings function_place b

  -- of the suite of an `else` or a `finally`, which may be missing
  pub opt_findings : Place → OptSuite → Findings
  opt_findings at no_suite = nothing
  opt_findings at (has_suite s) = suite_findings at s

  -- of the tests of an `if`
  pub arms_findings : Place → Arms → Findings
  arms_findings at no_arms = nothing
  arms_findings at (arm t b arms) = suite_findings at b & arms_findings at arms

  -- of the clauses of a `try`
  pub clauses_findings : Place → Clauses → Findings
  clauses_findings at no_clauses = nothing
  clauses_findings at (clause e x (suite first last inline b) cs) =
      blame (is_none e && has_clause cs) (EarlyIrrefutable first) &
      (findings (in_clause at) b & clauses_findings at cs)

  -- of the cases of a `match`
  pub cases_findings : Place → Cases → Findings
  cases_findings at no_cases = nothing
  cases_findings at (case p g (suite first last inline b) cs) =
      blame_case first p (is_some g) (has_case cs) & (findings at b & cases_findings at cs)

-- of a whole module
abbrev pub all_findings : Stmts → Findings
all_findings b = in_module b & findings module_place b

-- its faults
abbrev pub faults_of : Stmts → List ScopeError
faults_of b = (all_findings b).faults

-- the names of its functions, in the order of their `def`s
abbrev pub functions_of : Stmts → List Names
functions_of b = (all_findings b).functions

-- a module without a fault
abbrev pub IsWellFormed : Stmts → Type 0
IsWellFormed b = faults_of b ≡ []
