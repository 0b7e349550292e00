-- What a place is completed to, how high and how deep it is, and that this grows along a statement or a header.
use Rattle.std.proofs.Common.{ℕ, ◌≤◌, Bool, true, false, List, [], ◌∷◌, ◌++◌, Option, Some, None, arith}
use Rattle.py_token.specs.declared.token.Keyword.TheVariants as word
use Rattle.py_syntax.specs.declared.stmt.LineEnd.{LineEnd}
use Rattle.py_syntax.specs.Tree.{Text, Expr, Exprs, no_exprs, exprs, Pattern, wild}
use Rattle.py_syntax.specs.Tree.{Suite, suite, no_suite, Arms, Clauses, clause, Cases, no_cases, case, StmtKind, if', while, for, try, match}
use Rattle.py_syntax.specs.Kinds.{Kind, Word}
use Rattle.py_syntax.specs.Normal.{height, heights, pattern_height}
use Rattle.py_syntax.specs.Statements.{option_height}
use Rattle.py_grammar.specs.Machine.{snoc}
use Rattle.py_grammar.specs.Least.{least_name}
use Rattle.py_grammar.proofs.Least.Grows.{heights_snoc}
use Rattle.py_statements.specs.Open.{no_end, SuiteOf, an_arm, a_clause, a_def, a_case, closed, SuiteStack}
use Rattle.py_statements.specs.Machine.{Continuation, value, augmented, leaving, asserted, reason, arm_test, while_test, for_target, for_over, clause_kind, subject, guard, default, Place, Span, next_part}
use Rattle.py_parse.specs.Least.{pass_line, ended, chosen, ending, Form, a_statement, a_header, a_match, resumed, with_param, form, complete}
use Rattle.py_parse.proofs.Least.GrowthParts.{arm_height, arm_nesting, clause_height, clause_nesting, case_height, case_nesting, Low, Under, under_same, under_trans, within, ended_under, under_ended, closed_under, ending_low}

-- ---- the statement that a place is completed to

abbrev pub pass_only : Suite
pass_only = suite 0 0 true (pass_line 0)

-- a statement whose suite is just `pass`
abbrev pub passed : SuiteOf → StmtKind
passed o = closed o pass_only

-- the statement without its lines
abbrev pub core : Form → StmtKind
core (a_statement k e) = k
core (a_header inline o) = passed o
core (a_match e last) = match e 0 (case wild None pass_only no_cases)

pass_up : (o : SuiteOf) (l f g m : ℕ) (i : Bool) → Under (passed o) (ended l (closed o (suite f g i (pass_line m))))
pass_up o l f g m i = under_trans (passed o) (closed o (suite f g i (pass_line m))) (ended l (closed o (suite f g i (pass_line m)))) (closed_under o pass_only (suite f g i (pass_line m)) (within 0 0 f g true i (pass_line 0) (pass_line m) (omega arith, omega arith))) (ended_under l (closed o (suite f g i (pass_line m))))

pass_down : (o : SuiteOf) (l f g m : ℕ) (i : Bool) → Under (ended l (closed o (suite f g i (pass_line m)))) (passed o)
pass_down o l f g m i = under_trans (ended l (closed o (suite f g i (pass_line m)))) (closed o (suite f g i (pass_line m))) (passed o) (under_ended l (closed o (suite f g i (pass_line m)))) (closed_under o (suite f g i (pass_line m)) pass_only (within f g 0 0 i true (pass_line m) (pass_line 0) (omega arith, omega arith)))

-- A statement put into the block where this place stands.
pub low_to : (f : Form) (n : Span) (b : SuiteStack) (l x y : ℕ) (k : StmtKind) (e : LineEnd) → Under k (core f) → Low (ending l b x y k e) (complete f n b)
low_to (a_statement k' e') n b l x y k e h = ending_low b l n.last x y n.begun n.last k k' e e' h
low_to (a_header i o) n b l x y k e h =
    let k' = ended n.last (closed o (suite n.first n.last i (pass_line n.last))) in
    ending_low b l n.last x y n.begun n.last k k' e no_end (under_trans k (passed o) k' h (pass_up o n.last n.first n.last n.last i))
low_to (a_match m last) n b l x y k e h = ending_low b l n.last x y n.begun n.last k (chosen n.last m last no_cases) e no_end (let h0 = h.0 in let h1 = h.1 in (omega arith, omega arith))

pub low_from : (f : Form) (n : Span) (b : SuiteStack) (l x y : ℕ) (k : StmtKind) (e : LineEnd) → Under (core f) k → Low (complete f n b) (ending l b x y k e)
low_from (a_statement k' e') n b l x y k e h = ending_low b n.last l n.begun n.last x y k' k e' e h
low_from (a_header i o) n b l x y k e h =
    let k' = ended n.last (closed o (suite n.first n.last i (pass_line n.last))) in
    ending_low b n.last l n.begun n.last x y k' k no_end e (under_trans k' (passed o) k (pass_down o n.last n.first n.last n.last i) h)
low_from (a_match m last) n b l x y k e h = ending_low b n.last l n.begun n.last x y (chosen n.last m last no_cases) k no_end e (let h0 = h.0 in let h1 = h.1 in (omega arith, omega arith))

-- ---- it grows with its parts

pub arm_under : (arms : Arms) (e e' : Expr) → height e ≤ height e' → Under (passed (an_arm arms e)) (passed (an_arm arms e'))
arm_under arms e e' h = let a = arm_height arms e pass_only in let b = arm_height arms e' pass_only in let c = arm_nesting arms e pass_only in let d = arm_nesting arms e' pass_only in (omega arith, omega arith)

pub clause_under : (b : Suite) (cs : Clauses) (e e' : Option Expr) (x x' : Option Text) → option_height e ≤ option_height e' → Under (passed (a_clause b cs e x)) (passed (a_clause b cs e' x'))
clause_under b cs e e' x x' h =
    let a = clause_height cs e x pass_only in let a' = clause_height cs e' x' pass_only in
    let c = clause_nesting cs e x pass_only in let c' = clause_nesting cs e' x' pass_only in
    (omega arith, omega arith)

pub case_under : (e : Expr) (last : ℕ) (cs : Cases) (p p' : Pattern) (g g' : Option Expr) → pattern_height p ≤ pattern_height p' → option_height g ≤ option_height g' → Under (passed (a_case e last cs p g)) (passed (a_case e last cs p' g'))
case_under e last cs p p' g g' h i =
    let a = case_height cs p g pass_only in let a' = case_height cs p' g' pass_only in
    let c = case_nesting cs p g pass_only in let c' = case_nesting cs p' g' pass_only in
    (omega arith, omega arith)

pub def_under : (x : Text) (ps ps' : List Text) (ds ds' : Exprs) (c c' : Bool) → heights ds ≤ heights ds' → Under (passed (a_def x ps ds c)) (passed (a_def x ps' ds' c'))
def_under x ps ps' ds ds' c c' h = (omega arith, omega arith)

-- the place after an expression, with a higher one
pub resumed_under : (r : Continuation) (e e' : Expr) (l l' : ℕ) → height e ≤ height e' → Under (core (resumed r e l)) (core (resumed r e' l'))
resumed_under (value no_exprs) e e' l l' h = (omega arith, omega arith)
resumed_under (value (exprs t ts)) e e' l l' h = (omega arith, omega arith)
resumed_under (augmented p op) e e' l l' h = (omega arith, omega arith)
resumed_under (leaving true) e e' l l' h = (omega arith, omega arith)
resumed_under (leaving false) e e' l l' h = (omega arith, omega arith)
resumed_under asserted e e' l l' h = (omega arith, omega arith)
resumed_under (reason t) e e' l l' h = (omega arith, omega arith)
resumed_under (arm_test arms) e e' l l' h = arm_under arms e e' h
resumed_under while_test e e' l l' h = (omega arith, omega arith)
resumed_under for_target e e' l l' h = (omega arith, omega arith)
resumed_under (for_over t) e e' l l' h = (omega arith, omega arith)
resumed_under (clause_kind b cs) e e' l l' h = clause_under b cs (Some e) (Some e') None None h
resumed_under subject e e' l l' h = (omega arith, omega arith)
resumed_under (guard m last cs p) e e' l l' h = case_under m last cs p p (Some e) (Some e') (omega arith) h
resumed_under (default x ps ds y) e e' l l' h =
    let a = heights_snoc ds e in let a' = heights_snoc ds e' in
    def_under x (ps ++ y ∷ []) (ps ++ y ∷ []) (snoc ds e) (snoc ds e') false false (omega arith)

-- one target more
pub target_under : (ts : Exprs) (e e' : Expr) (l l' : ℕ) → height e ≤ height e' → Under (core (resumed (value ts) e l)) (core (resumed (value (snoc ts e')) least_name l'))
target_under no_exprs e e' l l' h = (omega arith, omega arith)
target_under (exprs t ts) e e' l l' h = let a = heights_snoc ts e' in (omega arith, omega arith)

-- a parameter more, and its default
pub param_under : (x : Text) (ps : List Text) (ds : Exprs) (y : Text) (c : Bool) → Under (passed (a_def x ps ds c)) (passed (with_param x ps ds y))
param_under x ps no_exprs y c = def_under x ps (ps ++ y ∷ []) no_exprs no_exprs c false (omega arith)
param_under x ps (exprs d ds) y c = let a = heights_snoc (exprs d ds) least_name in def_under x ps (ps ++ y ∷ []) (exprs d ds) (snoc (exprs d ds) least_name) c false (omega arith)

pub default_under : (x : Text) (ps : List Text) (ds : Exprs) (y : Text) → Under (passed (with_param x ps ds y)) (passed (a_def x (ps ++ y ∷ []) (snoc ds least_name) false))
default_under x ps no_exprs y = def_under x (ps ++ y ∷ []) (ps ++ y ∷ []) no_exprs (snoc no_exprs least_name) false false (omega arith)
default_under x ps (exprs d ds) y = under_same (passed (a_def x (ps ++ y ∷ []) (snoc (exprs d ds) least_name) false))

-- ---- a compound statement that goes on

abbrev pub GoesOn : StmtKind → Option Place → Type 0
GoesOn k None = Unit {0}
GoesOn k (Some p) = (l : ℕ) → Under k (core (form p l))

pub next_goes_on : (k : StmtKind) (t : Kind) → GoesOn k (next_part k t)
next_goes_on (if' arms no_suite) (Word word.Elif) = λ l. let a = arm_height arms least_name pass_only in let b = arm_nesting arms least_name pass_only in (omega arith, omega arith)
next_goes_on (if' arms no_suite) (Word word.Else) = λ l. (omega arith, omega arith)
next_goes_on (while t b no_suite) (Word word.Else) = λ l. (omega arith, omega arith)
next_goes_on (for t e b no_suite) (Word word.Else) = λ l. (omega arith, omega arith)
next_goes_on (try b cs no_suite no_suite) (Word word.Except) = λ l. let a = clause_height cs None None pass_only in let c = clause_nesting cs None None pass_only in (omega arith, omega arith)
next_goes_on (try b (clause e x s cs) no_suite no_suite) (Word word.Else) = λ l. (omega arith, omega arith)
next_goes_on (try b cs o no_suite) (Word word.Finally) = λ l. (omega arith, omega arith)
next_goes_on k t = tt
