-- A step makes the least tree hardly higher but for the expression that is read, and no deeper but for a suite that begins.
use Rattle.std.proofs.Common.{◌≡◌, ℕ, suc, ◌+◌, ◌≤◌, max, Bool, true, false, cond, List, [], ◌∷◌, ◌++◌, Option, Some, None, bytes_eq, refl, ap, arith}
use Rattle.py_operator.specs.declared.operator.BinOp.{BinOp}
use Rattle.py_token.specs.declared.token.Keyword.TheVariants as word
use Rattle.py_token.specs.declared.token.Mark.TheVariants as mark
use Rattle.py_syntax.specs.Tree.{Text, Expr, Exprs, no_exprs, exprs, Pattern, wild}
use Rattle.py_syntax.specs.Tree.{stmt, no_stmts, Suite, suite, Clauses, Cases, no_cases, case, StmtKind, expr, assert, aug_assign}
use Rattle.py_syntax.specs.Kinds.{Kind, Name, Word, Sign, Newline, Indent, Dedent, End}
use Rattle.py_syntax.specs.Headers.{Marked, is_match}
use Rattle.py_syntax.specs.Normal.{is_target, is_place, height}
use Rattle.py_syntax.specs.Statements.{case_name, kind_height, kind_nesting}
use Rattle.py_syntax.specs.Spelling.{HEIGHT}
use Rattle.py_grammar.specs.Machine as expression
use Rattle.py_grammar.specs.Machine.{any, one, snoc, start, class}
use Rattle.py_grammar.specs.Least as expression_least
use Rattle.py_grammar.specs.Least.{least_name}
use Rattle.py_parse_pattern.specs.Machine as pattern
use Rattle.py_statements.specs.Open.{no_end, newline_end, semicolon_end, both_end, SuiteOf, an_arm, a_while, a_for, a_clause, a_def, a_case, SuiteStack, top, inside, add}
use Rattle.py_statements.specs.Machine.{Continuation, value, augmented, leaving, asserted, reason, arm_test, while_test, for_target, for_over, clause_kind, subject, guard, default, Place, Reading, Matching, Simple, Semicolon, Leaving, NameWanted, NameRead, BoundWanted, BoundRead, ModuleWanted, ImportWanted, FunctionWanted, ParamsWanted, ParamWanted, ParamRead, Except, ClauseBound, ColonWanted, SuiteWanted, IndentWanted, MatchLine, MatchBlock, Span, State, Line, at, After, Choosing, Over, over_line, end_simple, end_header, begun_at, onward, goal, reads, wanted, simple_place, compound_place, begin_simple, begin_line, line, in_place_op, assigned, left, after_value, after_default, resume, resume_pattern, after_name, is_whole, next_part, act, choose, at_line, on_line, plain_step, header_step, step}
use Rattle.py_statements.specs.Listed.{Listed, globals, imports, froms, listed, with_name, may_bind, is_some}
use Rattle.py_parse.specs.Least.{chosen, Form, a_header, resumed, form}
use Rattle.py_parse.proofs.Sound.Valid.{Valid, ValidPlace, ValidContinuation}
use Rattle.py_parse.proofs.Least.GrowthParts.{clause_height, clause_nesting, case_height, case_nesting}
use Rattle.py_parse.proofs.Least.GrowthForms.{pass_only, passed, core, resumed_under, clause_under, case_under}
use Rattle.py_parse.proofs.Least.GrowthEnding.{Apt, closed_height, closed_nesting, suites_height, depth, suites_nesting, AptSuites, apt_line, apt_simple}
use Rattle.py_parse.proofs.Least.GrowthEnding.{apt as apt_suite_of}
use Rattle.py_statements.specs.Levels.{begins_at}
use Rattle.py_parse.proofs.Least.ExprLeavesWithin.{LeavesWithin, step_within}
use Rattle.py_parse.proofs.Least.PatternLeavesWithin as leaves_within
use Rattle.py_parse.proofs.Least.Weights.{state_height, state_nesting, AptState, inner, level, GrowsWithin, grows_within_from, added_height, added_nesting, added_apt, close_grows_within, over_line_grows_within}
use Rattle.py_parse.proofs.Least.FormsGrowWithin.{Hardly, hardly, resumed_hardly, case_hardly, target_hardly, param_hardly, default_hardly, Goes, next_goes}

-- the height and the depth of a place
abbrev high_at : Form → SuiteStack → ℕ
high_at f b = max (suites_height b) (kind_height (core f))

abbrev deep_at : Form → SuiteStack → ℕ
deep_at f b = max (suites_nesting b) (kind_nesting (core f) + depth b)

-- to another place of the same statement
to_place : (f : Form) (p : Place) (n : Span) (b : SuiteStack) → Hardly (inner (at p n b)) (core f) (core (form p n.last)) → GrowsWithin (high_at f b) (deep_at f b) (Some (at p n b))
to_place f p n b h = let one = h.0 in let two = h.1 in (omega arith, omega arith)

simple_grows_within : (k : StmtKind) (f : Form) (n : Span) (b : SuiteStack) (t : Kind) (l : ℕ) → AptSuites b → Hardly 0 (core f) k → GrowsWithin (high_at f b) (deep_at f b) (end_simple k n b t l)
simple_grows_within k f n b (Sign mark.Semicolon) l apt h = let one = h.0 in let two = h.1 in (omega arith, omega arith)
simple_grows_within k f n b Newline l apt h =
    let one = h.0 in let two = h.1 in
    let state_height' = added_height b n.begun n.last k newline_end in
    let state_nesting' = added_nesting b n.begun n.last k newline_end in
    grows_within_from (high_at f b) (suites_height (add b n.begun n.last k newline_end)) (deep_at f b) (suites_nesting (add b n.begun n.last k newline_end)) (Some (over_line (add b n.begun n.last k newline_end) l)) (omega arith) (omega arith) (over_line_grows_within (add b n.begun n.last k newline_end) l (added_apt b n.begun n.last k newline_end apt))
simple_grows_within k f n b t l apt h = tt

header_grows_within : (o : SuiteOf) (f : Form) (n : Span) (b : SuiteStack) (t : Kind) (l : ℕ) → Hardly 0 (core f) (passed o) → GrowsWithin (high_at f b) (deep_at f b) (end_header o n b t l)
header_grows_within o f n b (Sign mark.Colon) l h = let one = h.0 in let two = h.1 in (omega arith, omega arith)
header_grows_within o f n b t l h = tt

-- ---- statements begin

deep_block : (b : SuiteStack) → depth b ≤ suites_nesting b
deep_block (top ss) = omega arith
deep_block (inside ss i x y begun o b) = omega arith

-- a simple place stands for a statement with no suite, of the height of a name at most
abbrev Small : Option Place → Type 0
Small None = Unit {0}
Small (Some p) = (l : ℕ) → (kind_height (core (form p l)) ≤ HEIGHT) × (kind_nesting (core (form p l)) ≡ 0)

simple_small : (t : Kind) → Small (simple_place t)
simple_small (Word word.Pass) = λ l. (omega arith, refl)
simple_small (Word word.Break) = λ l. (omega arith, refl)
simple_small (Word word.Continue) = λ l. (omega arith, refl)
simple_small (Word word.Return) = λ l. (omega arith, refl)
simple_small (Word word.Raise) = λ l. (omega arith, refl)
simple_small (Word word.Assert) = λ l. (omega arith, refl)
simple_small (Word word.Global) = λ l. (omega arith, refl)
simple_small (Word word.Import) = λ l. (omega arith, refl)
simple_small (Word word.From) = λ l. (omega arith, refl)
simple_small t = tt

-- and a compound one has a suite
abbrev Opening : Option Place → Type 0
Opening None = Unit {0}
Opening (Some p) = ((l : ℕ) → (kind_height (core (form p l)) ≤ HEIGHT) × (kind_nesting (core (form p l)) ≤ 1)) × (begins_at p ≡ true)

compound_opening : (t : Kind) → Opening (compound_place t)
compound_opening (Word word.If) = (λ l. (omega arith, omega arith), refl)
compound_opening (Word word.While) = (λ l. (omega arith, omega arith), refl)
compound_opening (Word word.For) = (λ l. (omega arith, omega arith), refl)
compound_opening (Word word.Try) = (λ l. (omega arith, omega arith), refl)
compound_opening (Word word.Def) = (λ l. (omega arith, omega arith), refl)
compound_opening t = tt

opens_grows_within : (p : Place) (n : Span) (b : SuiteStack) → kind_height (core (form p n.last)) ≤ HEIGHT → kind_nesting (core (form p n.last)) ≤ 1 → begins_at p ≡ true → GrowsWithin (suites_height b) (suites_nesting b) (Some (at p n b))
opens_grows_within p n b low shallow begins =
    let d = deep_block b in
    let here : level (at p n b) ≡ suc (depth b) = ap (λ (c : Bool). cond c (suc (depth b)) 0) begins in
    (omega arith, omega arith)

reads_grows_within : (h d : ℕ) (r : Continuation) (n : Span) (b : SuiteStack) (o : expression.Out) → ((s : expression.State) → GrowsWithin h d (Some (at (Reading r s) n b))) → GrowsWithin h d (reads r n b o)
reads_grows_within h d r n b (expression.Next s) f = f s
reads_grows_within h d r n b expression.Stuck f = tt
reads_grows_within h d r n b (expression.Left e) f = tt

begin_simple_grows_within : (b : SuiteStack) (t : Kind) (f l : ℕ) → GrowsWithin (suites_height b) (suites_nesting b) (begin_simple b t f l)
begin_simple_grows_within b t f l = go (simple_place t) (simple_small t)
  where
    go : (o : Option Place) → Small o → GrowsWithin (suites_height b) (suites_nesting b) (elim o as (λ (w : Option Place). Option State) [ Some p ↦ Some (at p (begun_at f l) b) | None ↦ reads (value no_exprs) (begun_at f l) b (expression.step (start any) (class t)) ])
    go (Some p) h = let one = h l in let low = one.0 in let flat = one.1 in let d = deep_block b in (omega arith, omega arith)
    go None h = reads_grows_within (suites_height b) (suites_nesting b) (value no_exprs) (begun_at f l) b (expression.step (start any) (class t)) (λ s. let d = deep_block b in (omega arith, omega arith))

begin_line_grows_within : (b : SuiteStack) (t : Kind) (f l : ℕ) → GrowsWithin (suites_height b) (suites_nesting b) (begin_line b t f l)
begin_line_grows_within b t f l = go (compound_place t) (compound_opening t)
  where
    go : (o : Option Place) → Opening o → GrowsWithin (suites_height b) (suites_nesting b) (elim o as (λ (w : Option Place). Option State) [ Some p ↦ Some (at p (begun_at f l) b) | None ↦ begin_simple b t f l ])
    go (Some p) h = let one = h.0 l in opens_grows_within p (begun_at f l) b one.0 one.1 h.1
    go None h = begin_simple_grows_within b t f l

line_grows_within : (b : SuiteStack) (t : Kind) (f l : ℕ) → AptSuites b → GrowsWithin (suites_height b) (suites_nesting b) (line b t f l)
line_grows_within (top ss) End f l h = (omega arith, omega arith)
line_grows_within (inside (stmt f' l' k e ss) false x y begun o b) Dedent f l h = close_grows_within (inside (stmt f' l' k e ss) false x y begun o b) l h
line_grows_within b t f l h = begin_line_grows_within b t f l

-- ---- after an expression or a pattern

value_grows_within : (ts : Exprs) (e : Expr) (m : ℕ) (n : Span) (b : SuiteStack) (t : Kind) (l : ℕ) → AptSuites b → GrowsWithin (high_at (resumed (value ts) e m) b) (deep_at (resumed (value ts) e m) b) (after_value ts e n b t l)
value_grows_within ts e m n b (Sign mark.Equal) l apt = go (is_target e)
  where
    go : (c : Bool) → GrowsWithin (high_at (resumed (value ts) e m) b) (deep_at (resumed (value ts) e m) b) (cond c (Some (at (wanted (value (snoc ts e))) (onward n l) b)) None)
    go true = let h = target_hardly ts e m l in let one = h.0 in let two = h.1 in (omega arith, omega arith)
    go false = tt
value_grows_within no_exprs e m n b t l apt = go (in_place_op t)
  where
    go : (o : Option BinOp) → GrowsWithin (high_at (resumed (value no_exprs) e m) b) (deep_at (resumed (value no_exprs) e m) b) (elim o as (λ (w : Option BinOp). Option State) [ Some op ↦ cond (is_place e) (Some (at (wanted (augmented e op)) (onward n l) b)) None | None ↦ end_simple (expr e) n b t l ])
    go (Some op) = placed (is_place e)
      where
        placed : (c : Bool) → GrowsWithin (high_at (resumed (value no_exprs) e m) b) (deep_at (resumed (value no_exprs) e m) b) (cond c (Some (at (wanted (augmented e op)) (onward n l) b)) None)
        placed true = (omega arith, omega arith)
        placed false = tt
    go None = simple_grows_within (expr e) (resumed (value no_exprs) e m) n b t l apt (omega arith, omega arith)
value_grows_within (exprs x ts) e m n b t l apt = simple_grows_within (assigned (exprs x ts) e) (resumed (value (exprs x ts)) e m) n b t l apt (omega arith, omega arith)

default_grows_within : (x : Text) (ps : List Text) (ds : Exprs) (f : Form) (n : Span) (b : SuiteStack) (t : Kind) (l : ℕ) → Hardly 0 (core f) (passed (a_def x ps ds false)) → GrowsWithin (high_at f b) (deep_at f b) (after_default x ps ds n b t l)
default_grows_within x ps ds f n b (Sign mark.Comma) l h = let one = h.0 in let two = h.1 in (omega arith, omega arith)
default_grows_within x ps ds f n b (Sign mark.RightParen) l h = let one = h.0 in let two = h.1 in (omega arith, omega arith)
default_grows_within x ps ds f n b t l h = tt

pub resume_grows_within : (r : Continuation) (e : Expr) (m : ℕ) (n : Span) (b : SuiteStack) (t : Kind) (l : ℕ) → AptSuites b → GrowsWithin (high_at (resumed r e m) b) (deep_at (resumed r e m) b) (resume r e n b t l)
resume_grows_within (value ts) e m n b t l apt = value_grows_within ts e m n b t l apt
resume_grows_within (augmented p op) e m n b t l apt = simple_grows_within (aug_assign p op e) (resumed (augmented p op) e m) n b t l apt (omega arith, omega arith)
resume_grows_within (leaving raises) e m n b t l apt = simple_grows_within (left raises (Some e)) (resumed (leaving raises) e m) n b t l apt (omega arith, omega arith)
resume_grows_within asserted e m n b (Sign mark.Comma) l apt = (omega arith, omega arith)
resume_grows_within asserted e m n b t l apt = simple_grows_within (assert e None) (resumed asserted e m) n b t l apt (omega arith, omega arith)
resume_grows_within (reason test) e m n b t l apt = simple_grows_within (assert test (Some e)) (resumed (reason test) e m) n b t l apt (omega arith, omega arith)
resume_grows_within (arm_test arms) e m n b t l apt = header_grows_within (an_arm arms e) (resumed (arm_test arms) e m) n b t l (omega arith, omega arith)
resume_grows_within while_test e m n b t l apt = header_grows_within (a_while e) (resumed while_test e m) n b t l (omega arith, omega arith)
resume_grows_within for_target e m n b (Word word.In) l apt = (omega arith, omega arith)
resume_grows_within for_target e m n b t l apt = tt
resume_grows_within (for_over x) e m n b t l apt = header_grows_within (a_for x e) (resumed (for_over x) e m) n b t l (omega arith, omega arith)
resume_grows_within (clause_kind body cs) e m n b (Word word.As) l apt = to_place (resumed (clause_kind body cs) e m) (ClauseBound body cs e) (onward n l) b (hardly 0 (core (resumed (clause_kind body cs) e m)) (core (form (ClauseBound body cs e) l)) (clause_under body cs (Some e) (Some e) (Some []) None (omega arith)))
resume_grows_within (clause_kind body cs) e m n b t l apt = header_grows_within (a_clause body cs (Some e) None) (resumed (clause_kind body cs) e m) n b t l (omega arith, omega arith)
resume_grows_within subject e m n b (Sign mark.Colon) l apt = (omega arith, omega arith)
resume_grows_within subject e m n b t l apt = tt
resume_grows_within (guard m' last cs p) e m n b t l apt = header_grows_within (a_case m' last cs p (Some e)) (resumed (guard m' last cs p) e m) n b t l (omega arith, omega arith)
resume_grows_within (default x ps ds y) e m n b t l apt = default_grows_within x (ps ++ y ∷ []) (snoc ds e) (resumed (default x ps ds y) e m) n b t l (omega arith, omega arith)

pub pattern_grows_within : (e : Expr) (last : ℕ) (cs : Cases) (p : Pattern) (n : Span) (b : SuiteStack) (t : Kind) (l : ℕ) → GrowsWithin (high_at (a_header true (a_case e last cs p None)) b) (deep_at (a_header true (a_case e last cs p None)) b) (resume_pattern e last cs p n b t l)
pattern_grows_within e last cs p n b (Word word.If) l =
    let a = case_height cs p None pass_only in let a' = case_height cs p (Some least_name) pass_only in
    let c = case_nesting cs p None pass_only in let c' = case_nesting cs p (Some least_name) pass_only in
    (omega arith, omega arith)
pattern_grows_within e last cs p n b t l = header_grows_within (a_case e last cs p None) (a_header true (a_case e last cs p None)) n b t l (omega arith, omega arith)

listed_flat : (xs : Listed) → (kind_height (listed xs) ≡ 0) × (kind_nesting (listed xs) ≡ 0)
listed_flat (globals xs) = (refl, refl)
listed_flat (imports xs) = (refl, refl)
listed_flat (froms m xs) = (refl, refl)

flat_hardly : (k : StmtKind) (xs : Listed) → Hardly 0 k (listed xs)
flat_hardly k xs = let flat = listed_flat xs in let one = flat.0 in let two = flat.1 in (omega arith, omega arith)

name_grows_within : (xs : Listed) (f : Form) (n : Span) (b : SuiteStack) (t : Kind) (l : ℕ) → AptSuites b → GrowsWithin (high_at f b) (deep_at f b) (after_name xs n b t l)
name_grows_within xs f n b (Sign mark.Comma) l apt = to_place f (NameWanted xs) (onward n l) b (flat_hardly (core f) (with_name xs [] None))
name_grows_within xs f n b t l apt = simple_grows_within (listed xs) f n b t l apt (flat_hardly (core f) xs)

-- ---- a token in a statement or a header

-- an expression that is whole, in the place of what the state was completed to
left_grows_within : (r : Continuation) (s : expression.State) (e : Expr) (n : Span) (b : SuiteStack) (t : Kind) (l : ℕ) → AptSuites b → height e ≤ expression_least.least s → GrowsWithin (high_at (form (Reading r s) n.last) b) (deep_at (form (Reading r s) n.last) b) (resume r e n b t l)
left_grows_within r s e n b t l apt low =
    let h = resumed_under r e (expression_least.finished s) n.last n.last low in
    let one = h.0 in let two = h.1 in
    grows_within_from (high_at (form (Reading r s) n.last) b) (high_at (resumed r e n.last) b) (deep_at (form (Reading r s) n.last) b) (deep_at (resumed r e n.last) b) (resume r e n b t l) (omega arith) (omega arith) (resume_grows_within r e n.last n b t l apt)

reading_grows_within : (r : Continuation) (s : expression.State) (n : Span) (b : SuiteStack) (t : Kind) (f l : ℕ) → AptSuites b → GrowsWithin (high_at (form (Reading r s) n.last) b) (deep_at (form (Reading r s) n.last) b) (act (Reading r s) n b t f l)
reading_grows_within r s n b t f l apt = go (expression.step s (class t)) (step_within s (class t))
  where
    go : (w : expression.Out) → LeavesWithin (expression_least.least s) w → GrowsWithin (high_at (form (Reading r s) n.last) b) (deep_at (form (Reading r s) n.last) b) (elim w as (λ (w : expression.Out). Option State) [ expression.Next s' ↦ Some (at (Reading r s') (onward n l) b) | expression.Stuck ↦ None | expression.Left e ↦ resume r e n b t l ])
    go (expression.Next s') h = let k = resumed_hardly r (expression_least.finished s) (expression_least.finished s') n.last l in let one = k.0 in let two = k.1 in (omega arith, omega arith)
    go expression.Stuck h = tt
    go (expression.Left e) h = left_grows_within r s e n b t l apt h

-- a suite opens
opened_grows_within : (o : SuiteOf) (i j : Bool) (n : Span) (b : SuiteStack) → Apt o → (suites_height (inside no_stmts i n.first n.last n.begun o b) ≤ high_at (a_header j o) b) × (suites_nesting (inside no_stmts i n.first n.last n.begun o b) ≤ deep_at (a_header j o) b)
opened_grows_within o i j n b h = let one = closed_height o pass_only h in let two = closed_nesting o pass_only h in (omega arith, omega arith)

leaving_grows_within : (raises : Bool) (n : Span) (b : SuiteStack) (l : ℕ) (s : expression.State) → GrowsWithin (high_at (form (Leaving raises) n.last) b) (deep_at (form (Leaving raises) n.last) b) (Some (at (Reading (leaving raises) s) (onward n l) b))
leaving_grows_within true n b l s = (omega arith, omega arith)
leaving_grows_within false n b l s = (omega arith, omega arith)

clause_read : (body : Suite) (cs : Clauses) (e : Expr) → Hardly (height e) (passed (a_clause body cs None None)) (passed (a_clause body cs (Some e) None))
clause_read body cs e =
    let a = clause_height cs None None pass_only in let a' = clause_height cs (Some e) None pass_only in
    let c = clause_nesting cs None None pass_only in let c' = clause_nesting cs (Some e) None pass_only in
    (omega arith, omega arith)

matching_grows_within : (e : Expr) (last : ℕ) (cs : Cases) (s : pattern.State) (n : Span) (b : SuiteStack) (t : Kind) (f l : ℕ) → GrowsWithin (high_at (form (Matching e last cs s) n.last) b) (deep_at (form (Matching e last cs s) n.last) b) (act (Matching e last cs s) n b t f l)
matching_grows_within e last cs s n b t f l = go (pattern.step s t) (leaves_within.step_within s t)
  where
    go : (w : pattern.Out) → leaves_within.LeavesWithin (pattern.least s) w → GrowsWithin (high_at (form (Matching e last cs s) n.last) b) (deep_at (form (Matching e last cs s) n.last) b) (elim w as (λ (w : pattern.Out). Option State) [ pattern.Next s' ↦ Some (at (Matching e last cs s') (onward n l) b) | pattern.Stuck ↦ None | pattern.Left p ↦ resume_pattern e last cs p n b t l ])
    go (pattern.Next s') h = let k = case_hardly e last cs (pattern.finished s) (pattern.finished s') None (omega arith) in let one = k.0 in let two = k.1 in (omega arith, omega arith)
    go pattern.Stuck h = tt
    go (pattern.Left p) h =
        let k = case_under e last cs p (pattern.finished s) None None h (omega arith) in let one = k.0 in let two = k.1 in
        grows_within_from (high_at (form (Matching e last cs s) n.last) b) (high_at (a_header true (a_case e last cs p None)) b) (deep_at (form (Matching e last cs s) n.last) b) (deep_at (a_header true (a_case e last cs p None)) b) (resume_pattern e last cs p n b t l) (omega arith) (omega arith) (pattern_grows_within e last cs p n b t l)

-- the steps of a place
act_grows_within : (p : Place) (n : Span) (b : SuiteStack) (t : Kind) (f l : ℕ) → AptSuites b → ValidPlace p b → GrowsWithin (state_height (at p n b)) (state_nesting (at p n b)) (act p n b t f l)
act_grows_within (Reading r s) n b t f l apt valid = reading_grows_within r s n b t f l apt
act_grows_within (Matching e last cs s) n b t f l apt valid = matching_grows_within e last cs s n b t f l
act_grows_within (Simple k) n b t f l apt valid = simple_grows_within k (form (Simple k) n.last) n b t l apt (omega arith, omega arith)
act_grows_within (Semicolon k) n b Newline f l apt valid =
    let c = add b n.begun n.last k both_end in
    let one = added_height b n.begun n.last k both_end in let two = added_nesting b n.begun n.last k both_end in
    grows_within_from (state_height (at (Semicolon k) n b)) (suites_height c) (state_nesting (at (Semicolon k) n b)) (suites_nesting c) (Some (over_line c l)) (omega arith) (omega arith) (over_line_grows_within c l (added_apt b n.begun n.last k both_end apt))
act_grows_within (Semicolon k) n b t f l apt valid =
    let c = add b n.begun n.last k semicolon_end in
    let one = added_height b n.begun n.last k semicolon_end in let two = added_nesting b n.begun n.last k semicolon_end in
    grows_within_from (state_height (at (Semicolon k) n b)) (suites_height c) (state_nesting (at (Semicolon k) n b)) (suites_nesting c) (begin_simple c t f l) (omega arith) (omega arith) (begin_simple_grows_within c t f l)
act_grows_within (Leaving raises) n b (Sign mark.Semicolon) f l apt valid = simple_grows_within (left raises None) (form (Leaving raises) n.last) n b (Sign mark.Semicolon) l apt (omega arith, omega arith)
act_grows_within (Leaving raises) n b Newline f l apt valid = simple_grows_within (left raises None) (form (Leaving raises) n.last) n b Newline l apt (omega arith, omega arith)
act_grows_within (Leaving raises) n b t f l apt valid = reads_grows_within (state_height (at (Leaving raises) n b)) (state_nesting (at (Leaving raises) n b)) (leaving raises) (onward n l) b (expression.step (start (goal (leaving raises))) (class t)) (λ s. leaving_grows_within raises n b l s)
act_grows_within (NameWanted xs) n b (Name x) f l apt valid = to_place (form (NameWanted xs) n.last) (NameRead xs x) (onward n l) b (flat_hardly (core (form (NameWanted xs) n.last)) (with_name xs x None))
act_grows_within (NameWanted xs) n b t f l apt valid = tt
act_grows_within (NameRead xs x) n b (Word word.As) f l apt valid = go (may_bind xs)
  where
    go : (c : Bool) → GrowsWithin (state_height (at (NameRead xs x) n b)) (state_nesting (at (NameRead xs x) n b)) (cond c (Some (at (BoundWanted xs x) (onward n l) b)) None)
    go true = to_place (form (NameRead xs x) n.last) (BoundWanted xs x) (onward n l) b (flat_hardly (core (form (NameRead xs x) n.last)) (with_name xs x (Some [])))
    go false = tt
act_grows_within (NameRead xs x) n b t f l apt valid = name_grows_within (with_name xs x None) (form (NameRead xs x) n.last) n b t l apt
act_grows_within (BoundWanted xs x) n b (Name y) f l apt valid = to_place (form (BoundWanted xs x) n.last) (BoundRead (with_name xs x (Some y))) (onward n l) b (flat_hardly (core (form (BoundWanted xs x) n.last)) (with_name xs x (Some y)))
act_grows_within (BoundWanted xs x) n b t f l apt valid = tt
act_grows_within (BoundRead xs) n b t f l apt valid = name_grows_within xs (form (BoundRead xs) n.last) n b t l apt
act_grows_within ModuleWanted n b (Name m) f l apt valid = (omega arith, omega arith)
act_grows_within ModuleWanted n b t f l apt valid = tt
act_grows_within (ImportWanted m) n b (Word word.Import) f l apt valid = (omega arith, omega arith)
act_grows_within (ImportWanted m) n b t f l apt valid = tt
act_grows_within FunctionWanted n b (Name x) f l apt valid = (omega arith, omega arith)
act_grows_within FunctionWanted n b t f l apt valid = tt
act_grows_within (ParamsWanted x) n b (Sign mark.LeftParen) f l apt valid = (omega arith, omega arith)
act_grows_within (ParamsWanted x) n b t f l apt valid = tt
act_grows_within (ParamWanted x ps ds) n b (Name y) f l apt valid = to_place (form (ParamWanted x ps ds) n.last) (ParamRead x ps ds y) (onward n l) b (param_hardly x ps ds y (is_some ps))
act_grows_within (ParamWanted x ps ds) n b (Sign mark.RightParen) f l apt valid = (omega arith, omega arith)
act_grows_within (ParamWanted x ps ds) n b t f l apt valid = tt
act_grows_within (ParamRead x ps ds y) n b (Sign mark.Equal) f l apt valid = let h = default_hardly x ps ds y in let one = h.0 in let two = h.1 in (omega arith, omega arith)
act_grows_within (ParamRead x ps no_exprs y) n b t f l apt valid = default_grows_within x (ps ++ y ∷ []) no_exprs (form (ParamRead x ps no_exprs y) n.last) n b t l (omega arith, omega arith)
act_grows_within (ParamRead x ps (exprs d ds) y) n b t f l apt valid = tt
act_grows_within (Except body cs) n b (Sign mark.Colon) f l apt valid = header_grows_within (a_clause body cs None None) (form (Except body cs) n.last) n b (Sign mark.Colon) l (omega arith, omega arith)
act_grows_within (Except body cs) n b t f l apt valid = reads_grows_within (state_height (at (Except body cs) n b)) (state_nesting (at (Except body cs) n b)) (clause_kind body cs) (onward n l) b (expression.step (start one) (class t)) (λ s. to_place (form (Except body cs) n.last) (Reading (clause_kind body cs) s) (onward n l) b (clause_read body cs (expression_least.finished s)))
act_grows_within (ClauseBound body cs e) n b (Name x) f l apt valid = to_place (form (ClauseBound body cs e) n.last) (ColonWanted (a_clause body cs (Some e) (Some x))) (onward n l) b (hardly 0 (core (form (ClauseBound body cs e) n.last)) (passed (a_clause body cs (Some e) (Some x))) (clause_under body cs (Some e) (Some e) (Some x) (Some []) (omega arith)))
act_grows_within (ClauseBound body cs e) n b t f l apt valid = tt
act_grows_within (ColonWanted o) n b t f l apt valid = header_grows_within o (form (ColonWanted o) n.last) n b t l (omega arith, omega arith)
act_grows_within (SuiteWanted o) n b Newline f l apt valid = (omega arith, omega arith)
act_grows_within (SuiteWanted o) n b t f l apt valid =
    let c = inside no_stmts true n.first n.last n.begun o b in
    let h = opened_grows_within o true true n b (apt_suite_of o valid.0) in let one = h.0 in let two = h.1 in
    grows_within_from (state_height (at (SuiteWanted o) n b)) (suites_height c) (state_nesting (at (SuiteWanted o) n b)) (suites_nesting c) (begin_simple c t f l) (omega arith) (omega arith) (begin_simple_grows_within c t f l)
act_grows_within (IndentWanted o) n b Indent f l apt valid = let h = opened_grows_within o false false n b (apt_suite_of o valid.0) in let one = h.0 in let two = h.1 in (omega arith, omega arith)
act_grows_within (IndentWanted o) n b t f l apt valid = tt
act_grows_within (MatchLine e last) n b Newline f l apt valid = (omega arith, omega arith)
act_grows_within (MatchLine e last) n b t f l apt valid = tt
act_grows_within (MatchBlock e last) n b Indent f l apt valid = (omega arith, omega arith)
act_grows_within (MatchBlock e last) n b t f l apt valid = tt

-- ---- steps

choose_grows_within : (e : Expr) (last : ℕ) (cs : Cases) (first : ℕ) (b : SuiteStack) (t : Kind) (f l : ℕ) → GrowsWithin (state_height (Choosing e last cs first b)) (state_nesting (Choosing e last cs first b)) (choose e last cs first b t f l)
choose_grows_within e last cs first b (Name x) f l = go (bytes_eq x case_name)
  where
    begins : (cs : Cases) → Hardly 1 (chosen 0 e last cs) (passed (a_case e last cs wild None))
    begins no_cases = (omega arith, omega arith)
    begins (case p g (suite x y i ss) cs) = let a = case_height (case p g (suite x y i ss) cs) wild None pass_only in let c = case_nesting (case p g (suite x y i ss) cs) wild None pass_only in (omega arith, omega arith)

    go : (c : Bool) → GrowsWithin (state_height (Choosing e last cs first b)) (state_nesting (Choosing e last cs first b)) (cond c (Some (at (Matching e last cs pattern.start) (record { begun = first; first = f; last = l }) b)) None)
    go true = let h = begins cs in let one = h.0 in let two = h.1 in (omega arith, omega arith)
    go false = tt
choose_grows_within e last (case p g s cs) first b Dedent f l = (omega arith, omega arith)
choose_grows_within e last cs first b t f l = tt

-- the open suites, where a statement may begin
abbrev Rests : ℕ → ℕ → Option SuiteStack → Type 0
Rests h d None = Unit {0}
Rests h d (Some b) = (suites_height b ≤ max h HEIGHT) × (suites_nesting b ≤ d) × AptSuites b

at_line_rests : (s : State) → AptState s → Rests (state_height s) (state_nesting s) (at_line s)
at_line_rests (Line b) apt = (omega arith, omega arith, apt)
at_line_rests (at p n b) apt = tt
at_line_rests (After k first last b) apt = go (is_whole k)
  where
    go : (c : Bool) → Rests (state_height (After k first last b)) (state_nesting (After k first last b)) (cond c (Some (add b first last k no_end)) None)
    go true = let one = added_height b first last k no_end in let two = added_nesting b first last k no_end in (omega arith, omega arith, added_apt b first last k no_end apt)
    go false = tt
at_line_rests (Choosing e last cs first b) apt = tt
at_line_rests (Over ss) apt = tt

on_line_grows_within : (h d : ℕ) (o : Option SuiteStack) (t : Kind) (f l : ℕ) → Rests h d o → GrowsWithin h d (on_line o t f l)
on_line_grows_within h d None t f l r = tt
on_line_grows_within h d (Some b) t f l r = grows_within_from h (suites_height b) d (suites_nesting b) (line b t f l) r.0 r.1 (line_grows_within b t f l r.2)

header_line_grows_within : (h d : ℕ) (o : Option SuiteStack) (t : Kind) (f l : ℕ) → Rests h d o → GrowsWithin h d (header_step o t f l)
header_line_grows_within h d None t f l r = tt
header_line_grows_within h d (Some b) t f l r = go (is_match t)
  where
    go : (c : Bool) → GrowsWithin h d (cond c (Some (at (wanted subject) (begun_at f l) b)) None)
    go true = grows_within_from h (suites_height b) d (suites_nesting b) (Some (at (wanted subject) (begun_at f l) b)) r.0 r.1 (opens_grows_within (wanted subject) (begun_at f l) b (omega arith) (omega arith) refl)
    go false = tt

pub apt_state : (s : State) → Valid s → AptState s
apt_state (Line b) h = apt_line b h
apt_state (at p n b) h = apt_place p b h
  where
    resumed_apt : (r : Continuation) (b : SuiteStack) → ValidContinuation r b → AptSuites b
    resumed_apt (value ts) b h = apt_simple b h.1
    resumed_apt (augmented p op) b h = apt_simple b h.2
    resumed_apt (leaving raises) b h = apt_simple b h
    resumed_apt asserted b h = apt_simple b h
    resumed_apt (reason t) b h = apt_simple b h.1
    resumed_apt (arm_test arms) b h = apt_line b h.1
    resumed_apt while_test b h = apt_line b h
    resumed_apt for_target b h = apt_line b h
    resumed_apt (for_over t) b h = apt_line b h.2
    resumed_apt (clause_kind s cs) b h = apt_line b h.2
    resumed_apt subject b h = apt_line b h
    resumed_apt (guard e last cs p) b h = apt_line b h.3
    resumed_apt (default x ps ds y) b h = apt_line b h.1

    apt_place : (p : Place) (b : SuiteStack) → ValidPlace p b → AptSuites b
    apt_place (Reading r s) b h = resumed_apt r b h.1
    apt_place (Matching e last cs s) b h = apt_line b h.3
    apt_place (Simple k) b h = apt_simple b h.2
    apt_place (Semicolon k) b h = apt_simple b h.2
    apt_place (Leaving raises) b h = apt_simple b h
    apt_place (NameWanted l) b h = apt_simple b h
    apt_place (NameRead l x) b h = apt_simple b h
    apt_place (BoundWanted l x) b h = apt_simple b h.1
    apt_place (BoundRead l) b h = apt_simple b h.1
    apt_place ModuleWanted b h = apt_simple b h
    apt_place (ImportWanted m) b h = apt_simple b h
    apt_place FunctionWanted b h = apt_line b h
    apt_place (ParamsWanted x) b h = apt_line b h
    apt_place (ParamWanted x ps ds) b h = apt_line b h.1
    apt_place (ParamRead x ps ds y) b h = apt_line b h.1
    apt_place (Except s cs) b h = apt_line b h.2
    apt_place (ClauseBound s cs e) b h = apt_line b h.3
    apt_place (ColonWanted o) b h = apt_line b h.1
    apt_place (SuiteWanted o) b h = apt_line b h.1
    apt_place (IndentWanted o) b h = apt_line b h.1
    apt_place (MatchLine e last) b h = apt_line b h.1
    apt_place (MatchBlock e last) b h = apt_line b h.1
apt_state (After k first last b) h = apt_line b h.2
apt_state (Choosing e last cs first b) h = apt_line b h.2
apt_state (Over ss) h = tt

plain_grows_within : (s : State) (t : Kind) (f l : ℕ) → Valid s → GrowsWithin (state_height s) (state_nesting s) (plain_step s t f l)
plain_grows_within (Line b) t f l valid = line_grows_within b t f l (apt_line b valid)
plain_grows_within (at p n b) t f l valid = act_grows_within p n b t f l (apt_state (at p n b) valid) valid
plain_grows_within (After k first last b) t f l valid = go (next_part k t) (next_goes k t valid.0)
  where
    go : (o : Option Place) → Goes k o → GrowsWithin (state_height (After k first last b)) (state_nesting (After k first last b)) (elim o as (λ (w : Option Place). Option State) [ Some p ↦ Some (at p (record { begun = first; first = f; last = l }) b) | None ↦ on_line (at_line (After k first last b)) t f l ])
    go (Some p) h = let one = (h l).0 in let two = (h l).1 in (omega arith, omega arith)
    go None h = on_line_grows_within (state_height (After k first last b)) (state_nesting (After k first last b)) (at_line (After k first last b)) t f l (at_line_rests (After k first last b) (apt_state (After k first last b) valid))
plain_grows_within (Choosing e last cs first b) t f l valid = choose_grows_within e last cs first b t f l
plain_grows_within (Over ss) t f l valid = tt

-- A step adds little.
pub step_grows_within : (s : State) (m : Marked) (f l : ℕ) → Valid s → GrowsWithin (state_height s) (state_nesting s) (step s m f l)
step_grows_within s m f l valid = go m.header
  where
    go : (c : Bool) → GrowsWithin (state_height s) (state_nesting s) (cond c (header_step (at_line s) m.kind f l) (plain_step s m.kind f l))
    go true = header_line_grows_within (state_height s) (state_nesting s) (at_line s) m.kind f l (at_line_rests s (apt_state s valid))
    go false = plain_grows_within s m.kind f l valid
