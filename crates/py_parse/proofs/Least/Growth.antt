-- What a token does at the end of a part makes the least tree no lower, and no less deep.
use Rattle.std.proofs.Common.{ℕ, ◌≤◌, Bool, true, false, cond, List, [], ◌∷◌, ◌++◌, Option, Some, None, arith}
use Rattle.py_operator.specs.declared.operator.BinOp.{BinOp}
use Rattle.py_token.specs.declared.token.Keyword.TheVariants as word
use Rattle.py_token.specs.declared.token.Mark.TheVariants as mark
use Rattle.py_syntax.specs.declared.stmt.LineEnd.{LineEnd}
use Rattle.py_syntax.specs.Tree.{Text, Expr, Exprs, no_exprs, exprs, Pattern}
use Rattle.py_syntax.specs.Tree.{Stmts, stmt, Suite, suite, Cases, no_cases, case, StmtKind, expr, assert, match}
use Rattle.py_syntax.specs.Kinds.{Kind, Word, Sign, Newline, Dedent, End}
use Rattle.py_syntax.specs.Normal.{is_target, is_place, height, pattern_height}
use Rattle.py_grammar.specs.Machine as expression
use Rattle.py_grammar.specs.Machine.{any, snoc, start, class}
use Rattle.py_grammar.specs.Least.{least_name}
use Rattle.py_parse_pattern.specs.Machine as pattern
use Rattle.py_statements.specs.Open.{snoc_stmt, snoc_case, no_end, newline_end, both_end, SuiteOf, an_arm, a_while, a_for, a_clause, a_def, a_case, closed, SuiteStack, top, inside, add}
use Rattle.py_statements.specs.Machine.{Continuation, value, augmented, leaving, asserted, reason, arm_test, while_test, for_target, for_over, clause_kind, subject, guard, default, Place, Reading, Matching, NameWanted, ParamWanted, ClauseBound, ColonWanted, MatchLine, Span, State, at, close, over_line, end_simple, end_header, begun_at, onward, reads, wanted, simple_place, compound_place, begin_simple, begin_line, line, in_place_op, assigned, left, after_value, after_default, resume, resume_pattern, after_name}
use Rattle.py_statements.specs.Listed.{Listed, globals, imports, froms, listed, with_name}
use Rattle.py_parse.specs.Least.{ended, chosen, ending, closing, Form, a_statement, a_header, a_match, resumed, form, complete, finished}
use Rattle.py_parse.proofs.Least.GrowthParts.{Low, Under, low_same, low_trans, under_same, suite_under, ending_low, closing_low, added_low}
use Rattle.py_parse.proofs.Least.GrowthForms.{passed, core, low_to, low_from, clause_under, case_under, resumed_under, target_under}

-- what comes of a step is no lower and no less deep
abbrev pub Rises : Stmts → Option State → Type 0
Rises m None = Unit {0}
Rises m (Some s) = Low m (finished s)

pub rises_from : (m n : Stmts) (o : Option State) → Low m n → Rises n o → Rises m o
rises_from m n None h r = tt
rises_from m n (Some s) h r = low_trans m n (finished s) h r

-- from a place to another in the same block
pub place_low : (f f' : Form) (n n' : Span) (b : SuiteStack) → Under (core f) (core f') → Low (complete f n b) (complete f' n' b)
place_low f (a_statement k e) n n' b h = low_from f n b n'.last n'.begun n'.last k e h
place_low f (a_header i o) n n' b h = low_trans (complete f n b) (ending 0 b 0 0 (passed o) no_end) (complete (a_header i o) n' b) (low_from f n b 0 0 0 (passed o) no_end h) (low_to (a_header i o) n' b 0 0 0 (passed o) no_end (under_same (passed o)))
place_low f (a_match e last) n n' b h = let k = core (a_match e last) in low_trans (complete f n b) (ending 0 b 0 0 k no_end) (complete (a_match e last) n' b) (low_from f n b 0 0 0 k no_end h) (low_to (a_match e last) n' b 0 0 0 k no_end (under_same k))

-- ---- suites end

chosen_under : (l : ℕ) (e : Expr) (last : ℕ) (cs : Cases) (p : Pattern) (g : Option Expr) (s : Suite) → Under (match e last (snoc_case cs p g s)) (chosen l e last (snoc_case cs p g s))
chosen_under l e last no_cases p g s = under_same (match e last (case p g s no_cases))
chosen_under l e last (case p' g' s' cs) p g s = under_same (match e last (case p' g' s' (snoc_case cs p g s)))

pub close_low : (ss : Stmts) (i : Bool) (x y begun : ℕ) (o : SuiteOf) (b : SuiteStack) (l l' : ℕ) → Low (ending l b begun l (ended l (closed o (suite x y i ss))) no_end) (finished (close (inside ss i x y begun o b) l'))
close_low ss i x y begun (a_case e last cs p g) b l l' = ending_low b l 0 begun l begun 0 (match e last (snoc_case cs p g (suite x y i ss))) (chosen 0 e last (snoc_case cs p g (suite x y i ss))) no_end no_end (chosen_under 0 e last cs p g (suite x y i ss))
close_low ss i x y begun o b l l' = ending_low b l l' begun l begun l' (ended l (closed o (suite x y i ss))) (ended l' (closed o (suite x y i ss))) no_end no_end (suite_under o l l' x y x y i i ss ss (low_same ss))

pub over_line_low : (b : SuiteStack) (l l' f g : ℕ) (k : StmtKind) (e : LineEnd) → Low (ending l b f g k e) (finished (over_line (add b f g k e) l'))
over_line_low (top ss) l l' f g k e = low_same (snoc_stmt ss f g k e)
over_line_low (inside ss true x y begun o b) l l' f g k e = close_low (snoc_stmt ss f g k e) true x y begun o b l l'
over_line_low (inside ss false x y begun o b) l l' f g k e = added_low (inside ss false x y begun o b) l 0 f g k e

pub simple_rises : (k : StmtKind) (f : Form) (n : Span) (b : SuiteStack) (t : Kind) (l : ℕ) → Under (core f) k → Rises (complete f n b) (end_simple k n b t l)
simple_rises k f n b (Sign mark.Semicolon) l h = low_from f n b n.last n.begun n.last k both_end h
simple_rises k f n b Newline l h = low_trans (complete f n b) (ending l b n.begun n.last k newline_end) (finished (over_line (add b n.begun n.last k newline_end) l)) (low_from f n b l n.begun n.last k newline_end h) (over_line_low b l l n.begun n.last k newline_end)
simple_rises k f n b t l h = tt

pub header_rises : (o : SuiteOf) (f : Form) (n : Span) (b : SuiteStack) (t : Kind) (l : ℕ) → Under (core f) (passed o) → Rises (complete f n b) (end_header o n b t l)
header_rises o f n b (Sign mark.Colon) l h = place_low f (a_header true o) n (record { begun = n.begun; first = n.first; last = l }) b h
header_rises o f n b t l h = tt

-- ---- statements begin

pub begins_low : (m : Stmts) (b : SuiteStack) (p : Place) (n : Span) → Low m (closing 0 b) → Low m (finished (at p n b))
begins_low m b p n h = let k = core (form p n.last) in low_trans m (closing 0 b) (finished (at p n b)) h (low_trans (closing 0 b) (ending 0 b 0 0 k no_end) (finished (at p n b)) (closing_low b 0 0 0 0 k no_end) (low_to (form p n.last) n b 0 0 0 k no_end (under_same k)))

pub reads_rise : (m : Stmts) (r : Continuation) (n : Span) (b : SuiteStack) (o : expression.Out) → ((s : expression.State) → Low m (finished (at (Reading r s) n b))) → Rises m (reads r n b o)
reads_rise m r n b (expression.Next s) h = h s
reads_rise m r n b expression.Stuck h = tt
reads_rise m r n b (expression.Left e) h = tt

pub begin_simple_rises : (m : Stmts) (b : SuiteStack) (t : Kind) (f l : ℕ) → Low m (closing 0 b) → Rises m (begin_simple b t f l)
begin_simple_rises m b t f l h = go (simple_place t)
  where
    go : (o : Option Place) → Rises m (elim o as (λ (w : Option Place). Option State) [ Some p ↦ Some (at p (begun_at f l) b) | None ↦ reads (value no_exprs) (begun_at f l) b (expression.step (start any) (class t)) ])
    go (Some p) = begins_low m b p (begun_at f l) h
    go None = reads_rise m (value no_exprs) (begun_at f l) b (expression.step (start any) (class t)) (λ s. begins_low m b (Reading (value no_exprs) s) (begun_at f l) h)

begin_line_rises : (m : Stmts) (b : SuiteStack) (t : Kind) (f l : ℕ) → Low m (closing 0 b) → Rises m (begin_line b t f l)
begin_line_rises m b t f l h = go (compound_place t)
  where
    go : (o : Option Place) → Rises m (elim o as (λ (w : Option Place). Option State) [ Some p ↦ Some (at p (begun_at f l) b) | None ↦ begin_simple b t f l ])
    go (Some p) = begins_low m b p (begun_at f l) h
    go None = begin_simple_rises m b t f l h

pub line_rises : (b : SuiteStack) (t : Kind) (f l : ℕ) → Rises (closing 0 b) (line b t f l)
line_rises (top ss) End f l = low_same ss
line_rises (inside (stmt f' l' k e ss) false x y begun o b) Dedent f l = close_low (stmt f' l' k e ss) false x y begun o b 0 l
line_rises b t f l = begin_line_rises (closing 0 b) b t f l (low_same (closing 0 b))

-- ---- after an expression or a pattern

value_rises : (ts : Exprs) (e e' : Expr) (n : Span) (b : SuiteStack) (t : Kind) (l : ℕ) → height e ≤ height e' → Rises (complete (resumed (value ts) e n.last) n b) (after_value ts e' n b t l)
value_rises ts e e' n b (Sign mark.Equal) l h = go (is_target e')
  where
    go : (c : Bool) → Rises (complete (resumed (value ts) e n.last) n b) (cond c (Some (at (wanted (value (snoc ts e'))) (onward n l) b)) None)
    go true = place_low (resumed (value ts) e n.last) (resumed (value (snoc ts e')) least_name l) n (onward n l) b (target_under ts e e' n.last l h)
    go false = tt
value_rises no_exprs e e' n b t l h = go (in_place_op t)
  where
    go : (o : Option BinOp) → Rises (complete (resumed (value no_exprs) e n.last) n b) (elim o as (λ (w : Option BinOp). Option State) [ Some op ↦ cond (is_place e') (Some (at (wanted (augmented e' op)) (onward n l) b)) None | None ↦ end_simple (expr e') n b t l ])
    go (Some op) = placed (is_place e')
      where
        placed : (c : Bool) → Rises (complete (resumed (value no_exprs) e n.last) n b) (cond c (Some (at (wanted (augmented e' op)) (onward n l) b)) None)
        placed true = place_low (resumed (value no_exprs) e n.last) (resumed (augmented e' op) least_name l) n (onward n l) b (omega arith, omega arith)
        placed false = tt
    go None = simple_rises (expr e') (resumed (value no_exprs) e n.last) n b t l (omega arith, omega arith)
value_rises (exprs x ts) e e' n b t l h = simple_rises (assigned (exprs x ts) e') (resumed (value (exprs x ts)) e n.last) n b t l (resumed_under (value (exprs x ts)) e e' n.last l h)

pub default_rises : (x : Text) (ps : List Text) (ds : Exprs) (f : Form) (n : Span) (b : SuiteStack) (t : Kind) (l : ℕ) → Under (core f) (passed (a_def x ps ds false)) → Rises (complete f n b) (after_default x ps ds n b t l)
default_rises x ps ds f n b (Sign mark.Comma) l h = place_low f (form (ParamWanted x ps ds) l) n (onward n l) b h
default_rises x ps ds f n b (Sign mark.RightParen) l h = place_low f (form (ColonWanted (a_def x ps ds false)) l) n (onward n l) b h
default_rises x ps ds f n b t l h = tt

pub resume_rises : (r : Continuation) (e e' : Expr) (n : Span) (b : SuiteStack) (t : Kind) (l : ℕ) → height e ≤ height e' → Rises (complete (resumed r e n.last) n b) (resume r e' n b t l)
resume_rises (value ts) e e' n b t l h = value_rises ts e e' n b t l h
resume_rises asserted e e' n b (Sign mark.Comma) l h = place_low (resumed asserted e n.last) (resumed (reason e') least_name l) n (onward n l) b (omega arith, omega arith)
resume_rises asserted e e' n b t l h = simple_rises (assert e' None) (resumed asserted e n.last) n b t l (resumed_under asserted e e' n.last l h)
resume_rises for_target e e' n b (Word word.In) l h = place_low (resumed for_target e n.last) (resumed (for_over e') least_name l) n (onward n l) b (omega arith, omega arith)
resume_rises for_target e e' n b t l h = tt
resume_rises (clause_kind body cs) e e' n b (Word word.As) l h = place_low (resumed (clause_kind body cs) e n.last) (form (ClauseBound body cs e') l) n (onward n l) b (clause_under body cs (Some e) (Some e') None (Some []) h)
resume_rises (clause_kind body cs) e e' n b t l h = header_rises (a_clause body cs (Some e') None) (resumed (clause_kind body cs) e n.last) n b t l (resumed_under (clause_kind body cs) e e' n.last l h)
resume_rises subject e e' n b (Sign mark.Colon) l h = place_low (resumed subject e n.last) (form (MatchLine e' l) l) n (onward n l) b (omega arith, omega arith)
resume_rises subject e e' n b t l h = tt
resume_rises (augmented p op) e e' n b t l h = simple_rises (core (resumed (augmented p op) e' l)) (resumed (augmented p op) e n.last) n b t l (resumed_under (augmented p op) e e' n.last l h)
resume_rises (leaving raises) e e' n b t l h = simple_rises (left raises (Some e')) (resumed (leaving raises) e n.last) n b t l (resumed_under (leaving raises) e e' n.last l h)
resume_rises (reason test) e e' n b t l h = simple_rises (assert test (Some e')) (resumed (reason test) e n.last) n b t l (resumed_under (reason test) e e' n.last l h)
resume_rises (arm_test arms) e e' n b t l h = header_rises (an_arm arms e') (resumed (arm_test arms) e n.last) n b t l (resumed_under (arm_test arms) e e' n.last l h)
resume_rises while_test e e' n b t l h = header_rises (a_while e') (resumed while_test e n.last) n b t l (resumed_under while_test e e' n.last l h)
resume_rises (for_over x) e e' n b t l h = header_rises (a_for x e') (resumed (for_over x) e n.last) n b t l (resumed_under (for_over x) e e' n.last l h)
resume_rises (guard m last cs p) e e' n b t l h = header_rises (a_case m last cs p (Some e')) (resumed (guard m last cs p) e n.last) n b t l (resumed_under (guard m last cs p) e e' n.last l h)
resume_rises (default x ps ds y) e e' n b t l h = default_rises x (ps ++ y ∷ []) (snoc ds e') (resumed (default x ps ds y) e n.last) n b t l (resumed_under (default x ps ds y) e e' n.last l h)

pub pattern_rises : (e : Expr) (last : ℕ) (cs : Cases) (s : pattern.State) (p : Pattern) (n : Span) (b : SuiteStack) (t : Kind) (l : ℕ) → pattern.least s ≤ pattern_height p → Rises (complete (form (Matching e last cs s) n.last) n b) (resume_pattern e last cs p n b t l)
pattern_rises e last cs s p n b (Word word.If) l h = place_low (form (Matching e last cs s) n.last) (resumed (guard e last cs p) least_name l) n (onward n l) b (case_under e last cs (pattern.finished s) p None (Some least_name) h (omega arith))
pattern_rises e last cs s p n b t l h = header_rises (a_case e last cs p None) (form (Matching e last cs s) n.last) n b t l (case_under e last cs (pattern.finished s) p None None h (omega arith))

-- ---- listed names are as high as none

pub listed_under : (xs ys : Listed) → Under (listed xs) (listed ys)
listed_under (globals xs) (globals ys) = (omega arith, omega arith)
listed_under (globals xs) (imports ys) = (omega arith, omega arith)
listed_under (globals xs) (froms m ys) = (omega arith, omega arith)
listed_under (imports xs) (globals ys) = (omega arith, omega arith)
listed_under (imports xs) (imports ys) = (omega arith, omega arith)
listed_under (imports xs) (froms m ys) = (omega arith, omega arith)
listed_under (froms m xs) (globals ys) = (omega arith, omega arith)
listed_under (froms m xs) (imports ys) = (omega arith, omega arith)
listed_under (froms m xs) (froms m' ys) = (omega arith, omega arith)

pub name_rises : (xs ys : Listed) (e : LineEnd) (n : Span) (b : SuiteStack) (t : Kind) (l : ℕ) → Rises (complete (a_statement (listed xs) e) n b) (after_name ys n b t l)
name_rises xs ys e n b (Sign mark.Comma) l = place_low (a_statement (listed xs) e) (form (NameWanted ys) l) n (onward n l) b (listed_under xs (with_name ys [] None))
name_rises xs ys e n b t l = simple_rises (listed ys) (a_statement (listed xs) e) n b t l (listed_under xs ys)
