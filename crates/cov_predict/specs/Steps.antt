-- What the steps of the walk keep, for every part.
--     FirstIn, FirstOfElse, FirstClause, FirstOf     first marks
--     Enters, IsBefore, IsBeforeFinally, IsInTry     jumps into parts
--     IsOwn, Unites, LeavesLoop, LeavesTry ..        the ways by which parts are left
--     Ends, AddsArms, JoinsElse ..                   the arcs and ways of parts of statements
use Rattle.std.specs.Prelude.{◌≡◌, ℕ, Bool, true, not, ◌||◌, ◌&&◌, List, [], ◌∷◌, ◌++◌, Option, Result, OnOk, pos}
use Rattle.py_syntax.specs.declared.stmt.Stmt.{Stmt as StmtNode}
use Rattle.py_syntax.specs.FirstMarks.{only, stmts_first, stmts_empty, opt_first, opt_empty, arms_first, arms_empty, clauses_first}
use Rattle.py_syntax.specs.LastMarks.{Way, onward, breaking, raising, is_onward, own_way, may_raise, onward_only, past_loop, past_try, past_finally, comes, has_clause, arms_last, opt_last, finally_last}
use Rattle.py_syntax.specs.Prediction.{Arc}
use Rattle.py_syntax.specs.Tree.{OptSuite, Arms, Clauses}
use Rattle.py_syntax.specs.View.{plain_stmts}
use Rattle.cov_predict.specs.Walk.{Targets, arcs_to, unless, entering, before, before_finally, in_try, arms_walk}
use Rattle.cov_predict.specs.Leaving.{IsFirst, list_of, targets_of, IsLeft}
use Rattle.cov_predict.specs.declared.jumps.Jump.{Jump}
use Rattle.cov_predict.specs.declared.jumps.Jumps.{Jumps}
use Rattle.cov_predict.specs.declared.ways.Ways.{Ways}

-- the first mark of statements in a row
abbrev pub FirstIn : List StmtNode → Option ℕ → Type 0
FirstIn items first =
    IsFirst first (stmts_first (plain_stmts items)) (stmts_empty (plain_stmts items))

-- of an `else` or a `finally`
abbrev pub FirstOfElse : OptSuite → Option ℕ → Type 0
FirstOfElse o first = IsFirst first (opt_first o) (opt_empty o)

-- of clauses
abbrev pub FirstClause : Clauses → Option ℕ → Type 0
FirstClause cs first = IsFirst first (clauses_first cs) (not (has_clause cs))

-- the first test of the arms, or what comes first after them
abbrev pub FirstOf : Option ℕ → Option ℕ → Option ℕ → Type 0
FirstOf first after result = (arms : Arms) (ms : List ℕ) (e : Bool)
    → IsFirst first (arms_first arms []) (arms_empty arms true) → IsFirst after ms e
    → IsFirst result (arms_first arms ms) (arms_empty arms e)

-- ---- jumps

-- a jump into a part, with its first mark
abbrev pub Enters : Option ℕ → Jump → Jump → Type 0
Enters first after result = (ms : List ℕ) (e : Bool)
    → IsFirst first ms e → list_of result ≡ entering ms e (list_of after)

-- the jumps in front of a part that is entered onward
abbrev pub IsBefore : Option ℕ → Jumps → Jumps → Type 0
IsBefore first j result = (ms : List ℕ) (e : Bool)
    → IsFirst first ms e → targets_of result ≡ before ms e (targets_of j)

-- the jumps in front of a `finally`
abbrev pub IsBeforeFinally : Option ℕ → Jumps → Jumps → Type 0
IsBeforeFinally first j result = (fin : OptSuite)
    → FirstOfElse fin first → targets_of result ≡ before_finally fin (targets_of j)

-- the jumps in a `try` suite, with the first marks of the clauses and of the `else`
abbrev pub IsInTry : Option ℕ → Option ℕ → Jumps → Jumps → Type 0
IsInTry clause orelse j result = (cs : Clauses) (o : OptSuite)
    → FirstClause cs clause → FirstOfElse o orelse → targets_of result ≡ in_try cs o (targets_of j)

-- ---- ways

-- the ways of a part by none
abbrev pub IsNoWay : Ways → Type 0
IsNoWay result = IsLeft result (λ w. [])

-- a mark that is left by one way, or by an exception
abbrev pub IsOwn : Bool → Way → Ways → Type 0
IsOwn any own result = (l : ℕ) → IsLeft result (λ w. own_way own any w l)

-- a `raise`
abbrev pub IsRaise : Ways → Type 0
IsRaise result = (any : Bool) → IsOwn any raising result

-- a header that an exception may leave
abbrev pub MayRaise : Bool → Ways → Type 0
MayRaise any result = (l : ℕ) → IsLeft result (λ w. may_raise any w l)

-- the ways of either part
abbrev pub Unites : Ways → Ways → Ways → Type 0
Unites a b result = (f g : Way → List ℕ)
    → IsLeft a f → IsLeft b g → IsLeft result (λ w. f w ++ g w)

-- onward, where something marks
abbrev pub GoesOnward : Bool → Ways → Type 0
GoesOnward b result = (ls : List ℕ) → b ≡ comes ls → IsLeft result (λ w. onward_only w ls)

-- in front of a rest, which may be empty
abbrev pub PassesRest : Bool → Ways → Ways → Type 0
PassesRest empty a result = (f : Way → List ℕ)
    → IsLeft a f → IsLeft result (λ w. only (not (is_onward w) || empty) (f w))

-- out of the suite of a loop
abbrev pub LeavesLoop : Ways → Ways → Type 0
LeavesLoop a result = (f : Way → List ℕ)
    → IsLeft a f → IsLeft result (λ w. past_loop w (f breaking) (f w))

-- out of the suite of a `try`, which may be empty
abbrev pub LeavesTry : Bool → Bool → Bool → Ways → Ways → Type 0
LeavesTry empty tried passed a result =
    (l : ℕ) (f : Way → List ℕ) → IsLeft a f
    → IsLeft result (λ w. past_try w tried passed (f onward ++ only empty (l ∷ [])) (f w))

-- through a `finally` suite
abbrev pub GoesThrough : Bool → Ways → Ways → Ways → Type 0
GoesThrough empty came left result =
    (f g : Way → List ℕ) → IsLeft came f → IsLeft left g
    → IsLeft result (λ w. past_finally w empty (f w) (g onward) (g w))

-- the ways after a `finally`, with those that came to it, and those by which its suite is left
abbrev pub IsPastFinally : Ways → OptSuite → Ways → Ways → Type 0
IsPastFinally came fin left result = (any : Bool) (f : Way → List ℕ)
    → IsLeft came f → IsLeft left (λ w. opt_last any w fin)
    → IsLeft result (λ w. finally_last any w fin (f w))

-- ---- parts of statements

-- what the end of a loop by its test adds, with the first mark of the `else`
abbrev pub Ends : {X E : Type 0} → Result X E → Bool → ℕ → Option ℕ → Targets → List Arc → List Arc
    → Type 0
Ends result constant l orelse t before after =
    (o : OptSuite) → FirstOfElse o orelse
    → OnOk result
    (after
    ≡ before ++ unless constant (arcs_to (pos l) (entering (opt_first o) (opt_empty o) t.onward)))

-- the ways by which a loop ends so
abbrev pub IsEnd : ℕ → Bool → Option ℕ → Ways → Type 0
IsEnd l constant orelse result = (o : OptSuite) → FirstOfElse o orelse
    → IsLeft result (λ w. onward_only w (only (not constant && opt_empty o) (l ∷ [])))

-- the ways of what stands in front of an `else`, and those of the `else`
abbrev pub JoinsElse : Bool → Ways → OptSuite → Ways → Type 0
JoinsElse any left o result =
    (f : Way → List ℕ) → IsLeft left f → IsLeft result (λ w. f w ++ opt_last any w o)

-- the arcs of arms, with what comes first after them
abbrev pub AddsArms : {X E : Type 0} → Result X E → Bool → Targets → Arms → Option ℕ → List Arc
    → List Arc → Type 0
AddsArms result any t arms orelse before after = (ms : List ℕ) (e : Bool)
    → IsFirst orelse ms e → OnOk result (after ≡ before ++ arms_walk any t arms ms e)

-- the ways by which arms are left
abbrev pub LeavesArms : Bool → Arms → Option ℕ → Ways → Type 0
LeavesArms any arms orelse result = (ms : List ℕ) (e : Bool)
    → IsFirst orelse ms e → IsLeft result (λ w. arms_last any w arms [] e)

-- the ways by which a `try` is left, with those that came to its end
abbrev pub Finishes : Bool → Ways → OptSuite → Ways → Type 0
Finishes any came fin result = (l : ℕ) (f : Way → List ℕ)
    → IsLeft came f → IsLeft result (λ w. may_raise any w l ++ finally_last any w fin (f w))
