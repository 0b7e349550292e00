-- The height and the depth of a statement that a place is completed to, after an expression or a part more.
use Rattle.std.proofs.Common.{ℕ, suc, ◌+◌, ◌≤◌, max, Bool, true, false, cond, List, [], ◌∷◌, ◌++◌, Option, Some, None, arith}
use Rattle.py_token.specs.declared.token.Keyword.TheVariants as word
use Rattle.py_syntax.specs.Tree.{Text, Expr, Exprs, no_exprs, exprs, Pattern}
use Rattle.py_syntax.specs.Tree.{Suite, suite, no_suite, Arms, no_arms, arm, Cases, clause, StmtKind, if', while, for, try}
use Rattle.py_syntax.specs.Kinds.{Kind, Word}
use Rattle.py_syntax.specs.Normal.{height, pattern_height}
use Rattle.py_syntax.specs.Statements.{NormalKind, kind_height, kind_nesting, suite_nesting, arms_nesting, option_height}
use Rattle.py_syntax.specs.Spelling.{HEIGHT}
use Rattle.py_grammar.specs.Machine.{snoc}
use Rattle.py_grammar.specs.Least as expression_least
use Rattle.py_grammar.specs.Least.{least_name}
use Rattle.py_parse_pattern.specs.Machine as pattern
use Rattle.py_grammar.proofs.Least.Grows.{heights_snoc, height_some}
use Rattle.py_statements.specs.Open.{a_try, a_def, a_case, SuiteStack}
use Rattle.py_statements.specs.Machine.{Continuation, value, augmented, leaving, asserted, reason, arm_test, while_test, for_target, for_over, clause_kind, subject, guard, default, Place, Reading, Matching, FunctionWanted, ColonWanted, Span, State, at, next_part}
use Rattle.py_parse.specs.Least.{ended, resumed, with_param, form}
use Rattle.py_parse.proofs.Least.GrowthParts.{Under, arm_height, arm_nesting, clause_height, clause_nesting, case_height, case_nesting}
use Rattle.py_parse.proofs.Least.GrowthForms.{pass_only, passed, core}
use Rattle.py_parse.proofs.Least.GrowthEnding.{depth, suites_nesting}
use Rattle.py_statements.specs.Levels.{is_start}
use Rattle.py_parse.proofs.Least.Weights.{state_height, state_nesting, inner, level}

-- the second is hardly higher than the first, or than this, and no deeper
abbrev pub Hardly : ℕ → StmtKind → StmtKind → Type 0
Hardly h k k' = (kind_height k' ≤ max (max (kind_height k) HEIGHT) h) × (kind_nesting k' ≤ kind_nesting k)

pub hardly : (h : ℕ) (k k' : StmtKind) → Under k' k → Hardly h k k'
hardly h k k' u = let one = u.0 in let two = u.1 in (omega arith, omega arith)

-- after another expression
pub resumed_hardly : (r : Continuation) (e e' : Expr) (l l' : ℕ) → Hardly (height e') (core (resumed r e l)) (core (resumed r e' l'))
resumed_hardly (value no_exprs) e e' l l' = (omega arith, omega arith)
resumed_hardly (value (exprs t ts)) e e' l l' = (omega arith, omega arith)
resumed_hardly (augmented p op) e e' l l' = (omega arith, omega arith)
resumed_hardly (leaving true) e e' l l' = (omega arith, omega arith)
resumed_hardly (leaving false) e e' l l' = (omega arith, omega arith)
resumed_hardly asserted e e' l l' = (omega arith, omega arith)
resumed_hardly (reason t) e e' l l' = (omega arith, omega arith)
resumed_hardly (arm_test arms) e e' l l' = let a = arm_height arms e pass_only in let b = arm_height arms e' pass_only in let c = arm_nesting arms e pass_only in let d = arm_nesting arms e' pass_only in (omega arith, omega arith)
resumed_hardly while_test e e' l l' = (omega arith, omega arith)
resumed_hardly for_target e e' l l' = (omega arith, omega arith)
resumed_hardly (for_over t) e e' l l' = (omega arith, omega arith)
resumed_hardly (clause_kind b cs) e e' l l' =
    let a = clause_height cs (Some e) None pass_only in let a' = clause_height cs (Some e') None pass_only in
    let c = clause_nesting cs (Some e) None pass_only in let c' = clause_nesting cs (Some e') None pass_only in
    (omega arith, omega arith)
resumed_hardly subject e e' l l' = (omega arith, omega arith)
resumed_hardly (guard m last cs p) e e' l l' =
    let a = case_height cs p (Some e) pass_only in let a' = case_height cs p (Some e') pass_only in
    let c = case_nesting cs p (Some e) pass_only in let c' = case_nesting cs p (Some e') pass_only in
    (omega arith, omega arith)
resumed_hardly (default x ps ds y) e e' l l' = let a = heights_snoc ds e in let a' = heights_snoc ds e' in (omega arith, omega arith)

-- the expression is no higher than its statement
pub resumed_high : (r : Continuation) (e : Expr) (l : ℕ) → height e ≤ kind_height (core (resumed r e l))
resumed_high (value no_exprs) e l = omega arith
resumed_high (value (exprs t ts)) e l = omega arith
resumed_high (augmented p op) e l = omega arith
resumed_high (leaving true) e l = omega arith
resumed_high (leaving false) e l = omega arith
resumed_high asserted e l = omega arith
resumed_high (reason t) e l = omega arith
resumed_high (arm_test arms) e l = let a = arm_height arms e pass_only in omega arith
resumed_high while_test e l = omega arith
resumed_high for_target e l = omega arith
resumed_high (for_over t) e l = omega arith
resumed_high (clause_kind b cs) e l = let a = clause_height cs (Some e) None pass_only in omega arith
resumed_high subject e l = omega arith
resumed_high (guard m last cs p) e l = let a = case_height cs p (Some e) pass_only in omega arith
resumed_high (default x ps ds y) e l = let a = heights_snoc ds e in omega arith

-- a pattern and its guard
pub case_hardly : (e : Expr) (last : ℕ) (cs : Cases) (p p' : Pattern) (g : Option Expr) → option_height g ≤ 1 → Hardly (pattern_height p') (passed (a_case e last cs p None)) (passed (a_case e last cs p' g))
case_hardly e last cs p p' g low =
    let a = case_height cs p None pass_only in let a' = case_height cs p' g pass_only in
    let c = case_nesting cs p None pass_only in let c' = case_nesting cs p' g pass_only in
    (omega arith, omega arith)

pub case_high : (e : Expr) (last : ℕ) (cs : Cases) (p : Pattern) → pattern_height p ≤ kind_height (passed (a_case e last cs p None))
case_high e last cs p = let a = case_height cs p None pass_only in omega arith

-- one target more
pub target_hardly : (ts : Exprs) (e : Expr) (l l' : ℕ) → Hardly 0 (core (resumed (value ts) e l)) (core (resumed (value (snoc ts e)) least_name l'))
target_hardly no_exprs e l l' = let some = height_some e in (omega arith, omega arith)
target_hardly (exprs t ts) e l l' = let some = height_some e in let a = heights_snoc ts e in (omega arith, omega arith)

pub param_hardly : (x : Text) (ps : List Text) (ds : Exprs) (y : Text) (c : Bool) → Hardly 0 (passed (a_def x ps ds c)) (passed (with_param x ps ds y))
param_hardly x ps no_exprs y c = (omega arith, omega arith)
param_hardly x ps (exprs d ds) y c = let a = heights_snoc ds least_name in (omega arith, omega arith)

pub default_hardly : (x : Text) (ps : List Text) (ds : Exprs) (y : Text) → Hardly 0 (passed (with_param x ps ds y)) (passed (a_def x (ps ++ y ∷ []) (snoc ds least_name) false))
default_hardly x ps no_exprs y = (omega arith, omega arith)
default_hardly x ps (exprs d ds) y = let a = heights_snoc ds least_name in (omega arith, omega arith)

suite_some : (s : Suite) → 1 ≤ suite_nesting s
suite_some (suite f l i ss) = omega arith

arms_some : (t : Expr) (b : Suite) (arms : Arms) → 1 ≤ arms_nesting (arm t b arms)
arms_some t b arms = let one = suite_some b in omega arith

-- a compound statement that goes on
abbrev pub Goes : StmtKind → Option Place → Type 0
Goes k None = Unit {0}
Goes k (Some p) = ((l : ℕ) → Hardly 0 k (core (form p l)))

pub next_goes : (k : StmtKind) (t : Kind) → NormalKind (ended 0 k) → Goes k (next_part k t)
next_goes (if' no_arms no_suite) (Word word.Elif) h = absurd h
next_goes (if' (arm t b arms) no_suite) (Word word.Elif) h = λ l. let s = arms_some t b arms in let a = arm_height (arm t b arms) least_name pass_only in let c = arm_nesting (arm t b arms) least_name pass_only in (omega arith, omega arith)
next_goes (if' no_arms no_suite) (Word word.Else) h = absurd h
next_goes (if' (arm t b arms) no_suite) (Word word.Else) h = λ l. let s = arms_some t b arms in (omega arith, omega arith)
next_goes (while t b no_suite) (Word word.Else) h = λ l. let s = suite_some b in (omega arith, omega arith)
next_goes (for t e b no_suite) (Word word.Else) h = λ l. let s = suite_some b in (omega arith, omega arith)
next_goes (try b cs no_suite no_suite) (Word word.Except) h = λ l. let s = suite_some b in let a = clause_height cs None None pass_only in let c = clause_nesting cs None None pass_only in (omega arith, omega arith)
next_goes (try b (clause e x s cs) no_suite no_suite) (Word word.Else) h = λ l. let s' = suite_some b in (omega arith, omega arith)
next_goes (try b cs o no_suite) (Word word.Finally) h = λ l. let s = suite_some b in (omega arith, omega arith)
next_goes k t h = tt

-- ---- what is open, and what is being read, in a state

pub level_deep : (s : State) → level s ≤ state_nesting s
level_deep (at p n b) = place_deep p n b
  where
    when : (c : Bool) (d m k : ℕ) → 1 ≤ k → cond c (suc d) 0 ≤ max m (k + d)
    when true d m k h = omega arith
    when false d m k h = omega arith

    place_deep : (p : Place) (n : Span) (b : SuiteStack) → level (at p n b) ≤ state_nesting (at p n b)
    place_deep (Reading (arm_test no_arms) s) n b = when (is_start s) (depth b) (suites_nesting b) 1 (omega arith)
    place_deep (Reading while_test s) n b = when (is_start s) (depth b) (suites_nesting b) 1 (omega arith)
    place_deep (Reading for_target s) n b = when (is_start s) (depth b) (suites_nesting b) 1 (omega arith)
    place_deep (Reading subject s) n b = when (is_start s) (depth b) (suites_nesting b) 1 (omega arith)
    place_deep (ColonWanted a_try) n b = omega arith
    place_deep FunctionWanted n b = omega arith
    place_deep p n b = omega arith
level_deep s = omega arith

pub inner_tall : (s : State) → inner s ≤ state_height s
inner_tall (at (Reading r s) n b) = let one = resumed_high r (expression_least.finished s) n.last in omega arith
inner_tall (at (Matching e last cs s) n b) = let one = case_high e last cs (pattern.finished s) in omega arith
inner_tall s = omega arith
