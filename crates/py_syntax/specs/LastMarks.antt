-- The marks after which a run may leave a part of a tree, by each way out of it. (Python Language
-- Reference, 7 and 8)
--
-- Where `any` is true, everything that marks may raise at its mark; else `raise` alone raises.
--     Way                                    the ways out of a part
--     own_way, may_raise, onward_only        a statement's own mark, a header's, and marks that
--                                            only go on
--     past .. past_finally                   marks that leave a suite, a loop, a `try` and a
--                                            `finally`
--     stmts_last, kind_last, opt_last        the last marks by a way; arms_last and the like for
--                                            what stands in statements
use Rattle.std.specs.Prelude.{ℕ, Bool, true, false, not, ◌&&◌, ◌||◌, List, [], ◌∷◌, ◌++◌, Option, Some, None}
use Rattle.py_syntax.specs.Constants.{is_constant}
use Rattle.py_syntax.specs.FirstMarks.{only, stmts_empty, opt_empty, arms_empty}
use Rattle.py_syntax.specs.Patterns.{is_irrefutable}
use Rattle.py_syntax.specs.Tree.{Expr, Pattern, Stmts, no_stmts, stmt, suite, OptSuite, no_suite, has_suite, Arms, no_arms, arm, Clauses, no_clauses, clause, Cases, no_cases, case, StmtKind, expr, assign, aug_assign, pass, break, continue, return, raise, assert, global, import, from, if', while, for, try, def, match}

-- the ways out of a part: to what follows it, and by `break`, `continue`, `return` and an exception
pub data Way : Type 0 where
  onward : Way
  breaking : Way
  continuing : Way
  returning : Way
  raising : Way

-- whether a way goes on to what follows
abbrev pub is_onward : Way → Bool
is_onward onward = true
is_onward breaking = false
is_onward continuing = false
is_onward returning = false
is_onward raising = false

-- whether a way is an exception
abbrev pub is_raising : Way → Bool
is_raising onward = false
is_raising breaking = false
is_raising continuing = false
is_raising returning = false
is_raising raising = true

-- whether two ways are the same
abbrev pub same_way : Way → Way → Bool
same_way onward w = is_onward w
same_way breaking breaking = true
same_way breaking w = false
same_way continuing continuing = true
same_way continuing w = false
same_way returning returning = true
same_way returning w = false
same_way raising w = is_raising w

-- the mark of a statement, which it leaves by one way, or by an exception
abbrev pub own_way : Way → Bool → Way → ℕ → List ℕ
own_way own any w l = only (same_way own w || (any && is_raising w)) (l ∷ [])

-- the mark of a header, which an exception may leave
abbrev pub may_raise : Bool → Way → ℕ → List ℕ
may_raise any w l = only (any && is_raising w) (l ∷ [])

-- marks that go on to what follows, and leave by no other way
abbrev pub onward_only : Way → List ℕ → List ℕ
onward_only w ls = only (is_onward w) ls

-- the mark in front of a suite, where the suite is empty
abbrev pub past : ℕ → Stmts → List ℕ
past l b = only (stmts_empty b) (l ∷ [])

-- Of the last marks of a loop's suite: `break` ends the loop, and `continue` and the end of the
-- suite stay in it.
abbrev pub past_loop : Way → List ℕ → List ℕ → List ℕ
past_loop onward broken left = broken
past_loop breaking broken left = []
past_loop continuing broken left = []
past_loop returning broken left = left
past_loop raising broken left = left

-- Of the last marks of a `try` suite: its end goes on where there is no `else` to mark, and an
-- exception is tried by the clauses, if there are any. The marks are those at its end, and those at
-- this way.
abbrev pub past_try : Way → Bool → Bool → List ℕ → List ℕ → List ℕ
past_try onward tried passed ended left = only passed ended
past_try breaking tried passed ended left = left
past_try continuing tried passed ended left = left
past_try returning tried passed ended left = left
past_try raising tried passed ended left = only (not tried) left

-- whether some way leads here
abbrev pub comes : List ℕ → Bool
comes [] = false
comes (l ∷ ls) = true

-- At the end of a `finally` suite the run goes on by the way by which it came in: the marks that
-- came in, those after which the suite is left onward, and those after which it is left by this
-- way.
abbrev pub past_finally : Way → Bool → List ℕ → List ℕ → List ℕ → List ℕ
past_finally w empty came ended left =
    only (comes came) ended ++ (only empty came ++ only (not (is_onward w)) left)

-- whether a `try` has an `except` clause
abbrev pub has_clause : Clauses → Bool
has_clause no_clauses = false
has_clause (clause k x s rest) = true

-- whether a `match` has a case
abbrev pub has_case : Cases → Bool
has_case no_cases = false
has_case (case p g s rest) = true

-- a case that always takes its suite
abbrev pub is_sure : Pattern → Option Expr → Bool
is_sure p None = is_irrefutable p
is_sure p (Some guard) = false

unfoldable mutual
  -- the last marks of statements in a row
  pub stmts_last : Bool → Way → Stmts → List ℕ
  stmts_last any w no_stmts = []
  stmts_last any w (stmt f l k e rest) =
      only (not (is_onward w) || stmts_empty rest) (kind_last any w f k) ++ stmts_last any w rest

  -- of a statement with this first line
  pub kind_last : Bool → Way → ℕ → StmtKind → List ℕ
  kind_last any w l (expr e) = own_way onward any w l
  kind_last any w l (assign ts e) = own_way onward any w l
  kind_last any w l (aug_assign t op e) = own_way onward any w l
  kind_last any w l pass = own_way onward any w l
  kind_last any w l break = own_way breaking any w l
  kind_last any w l continue = own_way continuing any w l
  kind_last any w l (return e) = own_way returning any w l
  kind_last any w l (raise e) = own_way raising any w l
  kind_last any w l (assert e why) = own_way onward any w l
  kind_last any w l (global xs) = []
  kind_last any w l (import names) = own_way onward any w l
  kind_last any w l (from m names) = own_way onward any w l
  kind_last any w l (if' arms o) = arms_last any w arms (opt_last any w o) (opt_empty o)
  kind_last any w l (while t (suite f g inline b) o) =
      may_raise any w l
      ++ (past_loop w (stmts_last any breaking b) (stmts_last any w b)
      ++ (onward_only w (only (not (is_constant t) && opt_empty o) (l ∷ [])) ++ opt_last any w o))
  kind_last any w l (for t e (suite f g inline b) o) =
      may_raise any w l
      ++ (past_loop w (stmts_last any breaking b) (stmts_last any w b)
      ++ (onward_only w (only (opt_empty o) (l ∷ [])) ++ opt_last any w o))
  kind_last any w l (try (suite f g inline b) cs o fin) =
      may_raise any w l
      ++ finally_last any w fin
      (past_try w (has_clause cs) (opt_empty o) (stmts_last any onward b ++ past l b)
      (stmts_last any w b) ++ (clauses_last any w cs ++ opt_last any w o))
  kind_last any w l (def x ps ds c b) = own_way onward any w l
  kind_last any w l (match e header cs) =
      may_raise any w l
      ++ (onward_only w (only (not (has_case cs)) (l ∷ [])) ++ cases_last any w cs)

  -- the last marks of the suite of an `else`
  pub opt_last : Bool → Way → OptSuite → List ℕ
  opt_last any w no_suite = []
  opt_last any w (has_suite (suite f l inline b)) = stmts_last any w b

  -- with the last marks of the `else`, and whether it is empty or missing
  pub arms_last : Bool → Way → Arms → List ℕ → Bool → List ℕ
  arms_last any w no_arms orelse passed = orelse
  arms_last any w (arm t (suite f l inline b) rest) orelse passed =
      may_raise any w f
      ++ (onward_only w (past f b ++ only (arms_empty rest passed) (f ∷ []))
      ++ (stmts_last any w b ++ arms_last any w rest orelse passed))

  -- the last marks of the clauses of a `try`
  pub clauses_last : Bool → Way → Clauses → List ℕ
  clauses_last any w no_clauses = []
  clauses_last any w (clause k x (suite f l inline b) rest) =
      may_raise any w f
      ++ (onward_only w (past f b) ++ (stmts_last any w b ++ clauses_last any w rest))

  -- the last marks of the cases of a `match`
  pub cases_last : Bool → Way → Cases → List ℕ
  cases_last any w no_cases = []
  cases_last any w (case p g (suite f l inline b) rest) =
      may_raise any w f
      ++ (onward_only w (past f b ++ only (not (is_sure p g) && not (has_case rest)) (f ∷ []))
      ++ (stmts_last any w b ++ cases_last any w rest))

  -- with the last marks of what stands in front of it
  pub finally_last : Bool → Way → OptSuite → List ℕ → List ℕ
  finally_last any w no_suite came = came
  finally_last any w (has_suite (suite f l inline b)) came =
      past_finally w (stmts_empty b) came (stmts_last any onward b) (stmts_last any w b)
