-- The arcs and the last marks of what the walk's functions take apart, each as one word.
use Rattle.std.specs.Prelude.{ℕ, ℤ, Bool, not, ◌&&◌, List, [], ◌∷◌, ◌++◌, Option, Some, None, pos}
use Rattle.py_syntax.specs.FirstMarks.{only, opt_first, opt_empty, cases_first}
use Rattle.py_syntax.specs.LastMarks.{Way, onward, breaking, may_raise, onward_only, past, past_loop, past_try, has_clause, has_case, stmts_last, opt_last, cases_last}
use Rattle.py_syntax.specs.Prediction.{Arc}
use Rattle.py_syntax.specs.Tree.{Suite, suite, OptSuite, Clauses, Cases}
use Rattle.cov_predict.specs.Walk.{Target, Targets, arcs_to, entering, in_loop, united, header_line, unless, own_walk, suite_walk, opt_walk, cases_walk}

-- the last marks of a suite
abbrev pub suite_last : Bool → Way → Suite → List ℕ
suite_last any w (suite f g inline b) = stmts_last any w b

-- the suite of a loop
abbrev pub turns_last : Bool → Way → ℕ → Suite → List ℕ
turns_last any w l (suite f g inline b) =
    may_raise any w l ++ past_loop w (stmts_last any breaking b) (stmts_last any w b)

-- a loop up to its `else`, whose test may be one that always holds
abbrev pub turning_walk : Bool → Bool → Targets → ℕ → Suite → OptSuite → List Arc
turning_walk any constant t l s o =
    suite_walk any t (in_loop (pos l) t) l s
    ++ unless constant (arcs_to (pos l) (entering (opt_first o) (opt_empty o) t.onward))

-- its last marks
abbrev pub turning_last : Bool → Bool → Way → ℕ → Suite → OptSuite → List ℕ
turning_last any constant w l s o =
    turns_last any w l s ++ onward_only w (only (not constant && opt_empty o) (l ∷ []))

-- a whole loop
abbrev pub loop_walk : Bool → Bool → Targets → ℕ → Suite → OptSuite → List Arc
loop_walk any constant t l s o =
    suite_walk any t (in_loop (pos l) t) l s
    ++ (unless constant (arcs_to (pos l) (entering (opt_first o) (opt_empty o) t.onward))
    ++ opt_walk any t o)

-- its last marks
abbrev pub loop_last : Bool → Bool → Way → ℕ → Suite → OptSuite → List ℕ
loop_last any constant w l s o =
    may_raise any w l
    ++ (past_loop w (suite_last any breaking s) (suite_last any w s)
    ++ (onward_only w (only (not constant && opt_empty o) (l ∷ [])) ++ opt_last any w o))

-- a `match`
abbrev pub match_walk : Bool → Targets → ℕ → Cases → List Arc
match_walk any t l cs =
    own_walk any t (pos l) (entering (cases_first cs) (not (has_case cs)) t.onward)
    ++ cases_walk any t cs

-- its last marks
abbrev pub match_last : Bool → Way → ℕ → Cases → List ℕ
match_last any w l cs =
    may_raise any w l ++ (onward_only w (only (not (has_case cs)) (l ∷ [])) ++ cases_last any w cs)

-- a header with its suite, which leads past it unless it is sure, and whether it so leaves the
-- statement
abbrev pub headed_walk : Bool → Targets → Suite → Bool → List Target → List Arc
headed_walk any t s sure after =
    suite_walk any t t (header_line s) s ++ unless sure (arcs_to (pos (header_line s)) after)

-- its last marks
abbrev pub headed_last : Bool → Way → Suite → Bool → List ℕ
headed_last any w (suite f g inline b) leaves =
    may_raise any w f ++ (onward_only w (past f b ++ only leaves (f ∷ [])) ++ stmts_last any w b)

-- the suite of a `try`
abbrev pub ended_last : Bool → Way → ℕ → Suite → Clauses → OptSuite → List ℕ
ended_last any w l (suite f g inline b) cs o =
    past_try w (has_clause cs) (opt_empty o) (stmts_last any onward b ++ past l b)
    (stmts_last any w b)

-- a `finally`, with the ways that came to it
abbrev pub finally_walk : Bool → Targets → (Way → Bool) → OptSuite → List Arc
finally_walk any t came fin = opt_walk any (record t { onward = united came t }) fin

-- ---- bodies and functions

-- the arc into a body with this first mark, or the one arc of a body without a mark
abbrev pub entry : ℤ → Option ℕ → Arc
entry out None = (out, out)
entry out (Some l) = (out, pos l)
