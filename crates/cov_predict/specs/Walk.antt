-- The arcs of a module by a walk that knows where each way out of a part leads. (Python Language
-- Reference, 7 and 8)
--
-- Where `any` is true, everything that marks may raise at its mark; else `raise` alone raises.
--     Target, Targets                        where a mark leads, and where each way out of a part
--                                            does
--     arcs_to, raises, unless                the arcs from a line to targets, those of an
--                                            exception, and those that may be none
--     entering, before                       the targets in front of a part
--     with_target, united                    targets each once
--     in_loop, before_finally, in_try        the targets in a loop, in front of a `finally`, and in
--                                            a `try` suite
--     stmts_walk, kind_walk, opt_walk        the arcs of statements; suite_walk and the like for
--                                            what stands in them
--     body_walk, functions_walk, module_walk     those of bodies
use Rattle.std.specs.Prelude.{ℕ, Bool, true, false, not, if◌then◌else◌, ◌&&◌, List, [], ◌∷◌, ◌++◌, map, ℤ, neg_ℤ, pos}
use Rattle.std.specs.List.{list_any}
use Rattle.std.specs.Bool.{beq}
use Rattle.std.specs.Ordering.{int_eq}
use Rattle.py_syntax.specs.Constants.{is_constant}
use Rattle.py_syntax.specs.FirstMarks.{stmts_empty, opt_empty, arms_empty, stmts_first, opt_first, arms_first, clauses_first, cases_first}
use Rattle.py_syntax.specs.Functions.{Function, functions, without_docstring}
use Rattle.py_syntax.specs.LastMarks.{Way, onward, breaking, continuing, returning, raising, past, past_try, comes, has_clause, has_case, is_sure, stmts_last, opt_last, clauses_last}
use Rattle.py_syntax.specs.Neighbours.{names_kind}
use Rattle.py_syntax.specs.Prediction.{Arc}
use Rattle.py_syntax.specs.Tree.{Stmts, no_stmts, stmt, Suite, suite, OptSuite, no_suite, has_suite, Arms, no_arms, arm, Clauses, no_clauses, clause, Cases, no_cases, case, StmtKind, expr, assign, aug_assign, pass, break, continue, return, raise, assert, global, import, from, if', while, for, try, def, match}

-- where a mark leads: the end of an arc, and whether it is one from the same line too
abbrev pub Target : Type 0
Target = ℤ × Bool

-- where each way out of a part leads
pub record Targets : Type 0 where
  pub onward : List Target
  pub breaking : List Target
  pub continuing : List Target
  pub returning : List Target
  pub raising : List Target

-- the arc from a line to a target, but from a line to its own mark where that is none
abbrev pub arc_to : ℤ → Target → List Arc
arc_to l t = if int_eq l t.0 && not t.1 then [] else (l, t.0) ∷ []

-- the arcs from a line to targets
abbrev pub arcs_to : ℤ → List Target → List Arc
arcs_to l [] = []
arcs_to l (t ∷ ts) = arc_to l t ++ arcs_to l ts

-- of an exception at a mark
abbrev pub raises : Bool → Targets → ℤ → List Arc
raises any t l = if any then arcs_to l t.raising else []

-- arcs, or none where something holds
abbrev pub unless : Bool → List Arc → List Arc
unless b arcs = if b then [] else arcs

-- the first mark of what comes next, and where that can be passed without a mark, what follows it
abbrev pub entering : List ℕ → Bool → List Target → List Target
entering firsts empty after = map (λ m. (pos m, false)) firsts ++ (if empty then after else [])

-- the header of a loop, to which a turn goes back
abbrev pub turn : ℤ → List Target
turn header = (header, true) ∷ []

-- in the suite of a loop
abbrev pub in_loop : ℤ → Targets → Targets
in_loop header t = record {
  onward = turn header;
  breaking = t.onward;
  continuing = turn header;
  returning = t.returning;
  raising = t.raising;
}

-- in front of a part, with that part's first mark, and whether it is empty: of an `else`, which is
-- entered onward alone
abbrev pub before : List ℕ → Bool → Targets → Targets
before firsts empty t = record t { onward = entering firsts empty t.onward }

-- in front of a `finally` suite, through which each way goes
abbrev pub before_finally : OptSuite → Targets → Targets
before_finally fin t = record {
  onward = entering (opt_first fin) (opt_empty fin) t.onward;
  breaking = entering (opt_first fin) (opt_empty fin) t.breaking;
  continuing = entering (opt_first fin) (opt_empty fin) t.continuing;
  returning = entering (opt_first fin) (opt_empty fin) t.returning;
  raising = entering (opt_first fin) (opt_empty fin) t.raising;
}

-- in the suite of a `try`
abbrev pub in_try : Clauses → OptSuite → Targets → Targets
in_try cs o t = record t {
  onward = entering (opt_first o) (opt_empty o) t.onward;
  raising = entering (clauses_first cs) (not (has_clause cs)) t.raising;
}

-- whether two targets are one
abbrev pub same_target : Target → Target → Bool
same_target t u = int_eq t.0 u.0 && beq t.1 u.1

-- targets and one more, each once
abbrev pub with_target : List Target → Target → List Target
with_target ts t = if list_any (λ u. same_target u t) ts then ts else ts ++ t ∷ []

-- targets and more of them
abbrev pub with_targets : List Target → List Target → List Target
with_targets ts [] = ts
with_targets ts (u ∷ us) = with_targets (with_target ts u) us

-- targets and those of a way, where that came
abbrev pub with_way : Bool → List Target → List Target → List Target
with_way came ts us = if came then with_targets ts us else ts

-- where a `finally` suite goes on at its end: where the ways lead by which it was entered
abbrev pub united : (Way → Bool) → Targets → List Target
united came t =
    with_way (came raising)
    (with_way (came returning)
    (with_way (came continuing)
    (with_way (came breaking) (with_way (came onward) [] t.onward) t.breaking) t.continuing)
    t.returning) t.raising

-- the last marks of what stands in front of a `finally`
abbrev pub came_last : Bool → ℕ → Suite → Clauses → OptSuite → Way → List ℕ
came_last any l (suite f g inline b) cs o w =
    past_try w (has_clause cs) (opt_empty o) (stmts_last any onward b ++ past l b)
    (stmts_last any w b) ++ (clauses_last any w cs ++ opt_last any w o)

-- the line of the header in front of a suite
abbrev pub header_line : Suite → ℕ
header_line (suite f g inline b) = f

-- a mark that leads to these, or is left by an exception
abbrev pub own_walk : Bool → Targets → ℤ → List Target → List Arc
own_walk any t l to = arcs_to l to ++ raises any t l

abbrev mutual
  -- of statements in a row
  pub stmts_walk : Bool → Targets → Stmts → List Arc
  stmts_walk any t no_stmts = []
  stmts_walk any t (stmt l m k e rest) =
      kind_walk any (before (stmts_first rest) (stmts_empty rest) t) l k ++ stmts_walk any t rest

  -- of a statement with this first line
  pub kind_walk : Bool → Targets → ℕ → StmtKind → List Arc
  kind_walk any t l (expr e) = own_walk any t (pos l) t.onward
  kind_walk any t l (assign ts e) = own_walk any t (pos l) t.onward
  kind_walk any t l (aug_assign p op e) = own_walk any t (pos l) t.onward
  kind_walk any t l pass = own_walk any t (pos l) t.onward
  kind_walk any t l break = own_walk any t (pos l) t.breaking
  kind_walk any t l continue = own_walk any t (pos l) t.continuing
  kind_walk any t l (return e) = own_walk any t (pos l) t.returning
  kind_walk any t l (raise e) = arcs_to (pos l) t.raising
  kind_walk any t l (assert e why) = own_walk any t (pos l) t.onward
  kind_walk any t l (global xs) = []
  kind_walk any t l (import names) = own_walk any t (pos l) t.onward
  kind_walk any t l (from m names) = own_walk any t (pos l) t.onward
  kind_walk any t l (if' arms o) =
      arms_walk any t arms (opt_first o) (opt_empty o) ++ opt_walk any t o
  kind_walk any t l (while e b o) =
      suite_walk any t (in_loop (pos l) t) l b
      ++ (unless (is_constant e) (arcs_to (pos l) (entering (opt_first o) (opt_empty o) t.onward))
      ++ opt_walk any t o)
  kind_walk any t l (for x e b o) =
      suite_walk any t (in_loop (pos l) t) l b
      ++ (unless false (arcs_to (pos l) (entering (opt_first o) (opt_empty o) t.onward))
      ++ opt_walk any t o)
  kind_walk any t l (try b cs o fin) =
      suite_walk any t (in_try cs o (before_finally fin t)) l b
      ++ (clauses_walk any (before_finally fin t) cs
      ++ (opt_walk any (before_finally fin t) o
      ++ opt_walk any (record t { onward = united (λ w. comes (came_last any l b cs o w)) t }) fin))
  kind_walk any t l (def x ps ds c b) = own_walk any t (pos l) t.onward
  kind_walk any t l (match e header cs) =
      own_walk any t (pos l) (entering (cases_first cs) (not (has_case cs)) t.onward)
      ++ cases_walk any t cs

  -- of a header that leads into its suite, and of the suite, in which other jumps hold
  pub suite_walk : Bool → Targets → Targets → ℕ → Suite → List Arc
  suite_walk any t within l (suite f g inline b) =
      own_walk any t (pos l) (entering (stmts_first b) (stmts_empty b) within.onward)
      ++ stmts_walk any within b

  -- of the suite of an `else` or a `finally`, which may be missing
  pub opt_walk : Bool → Targets → OptSuite → List Arc
  opt_walk any t no_suite = []
  opt_walk any t (has_suite (suite f g inline b)) = stmts_walk any t b

  -- with the first mark of the `else`, and whether it is empty or missing
  pub arms_walk : Bool → Targets → Arms → List ℕ → Bool → List Arc
  arms_walk any t no_arms orelse passed = []
  arms_walk any t (arm e s rest) orelse passed =
      suite_walk any t t (header_line s) s
      ++ (unless false
      (arcs_to (pos (header_line s))
      (entering (arms_first rest orelse) (arms_empty rest passed) t.onward))
      ++ arms_walk any t rest orelse passed)

  -- of the clauses of a `try`
  pub clauses_walk : Bool → Targets → Clauses → List Arc
  clauses_walk any t no_clauses = []
  clauses_walk any t (clause k x s rest) =
      suite_walk any t t (header_line s) s
      ++ (unless (not (names_kind k))
      (arcs_to (pos (header_line s)) (entering (clauses_first rest) (not (has_clause rest)) []))
      ++ clauses_walk any t rest)

  -- of the cases of a `match`
  pub cases_walk : Bool → Targets → Cases → List Arc
  cases_walk any t no_cases = []
  cases_walk any t (case p guard s rest) =
      suite_walk any t t (header_line s) s
      ++ (unless (is_sure p guard)
      (arcs_to (pos (header_line s)) (entering (cases_first rest) (not (has_case rest)) t.onward))
      ++ cases_walk any t rest)

-- outside a body: no loop is there to leave
abbrev pub leaving : ℤ → Targets
leaving out = record {
  onward = (out, true) ∷ [];
  breaking = [];
  continuing = [];
  returning = (out, true) ∷ [];
  raising = (out, true) ∷ [];
}

-- of a body without its docstring, from outside it and back
abbrev pub body_walk : Bool → ℕ → Stmts → List Arc
body_walk any first b =
    map (λ l. (neg_ℤ (pos first), pos l)) (stmts_first b)
    ++ ((if stmts_empty b then (neg_ℤ (pos first), neg_ℤ (pos first)) ∷ [] else [])
    ++ stmts_walk any (leaving (neg_ℤ (pos first))) b)

-- of functions
abbrev pub functions_walk : Bool → List Function → List Arc
functions_walk any [] = []
functions_walk any (f ∷ fs) =
    body_walk any f.line (without_docstring f.body) ++ functions_walk any fs

-- of a module and its functions
abbrev pub module_walk : Bool → Stmts → List Arc
module_walk any m = body_walk any 1 (without_docstring m) ++ functions_walk any (functions m)
