-- No step makes the least height of a state less, or the number of its suites inside each other.
use Rattle.std.proofs.Common.{◌≡◌, ℕ, ◌≤◌, Bool, true, false, cond, [], ◌∷◌, ◌++◌, Option, Some, None, bytes_eq, subst, arith}
use Rattle.py_token.specs.declared.token.Keyword.TheVariants as word
use Rattle.py_token.specs.declared.token.Mark.TheVariants as mark
use Rattle.py_syntax.specs.Tree.{Expr, no_exprs, exprs, wild}
use Rattle.py_syntax.specs.Tree.{Stmts, no_stmts, suite, Cases, no_cases, case, match}
use Rattle.py_syntax.specs.Kinds.{Kind, Name, Word, Sign, Newline, Indent, Dedent}
use Rattle.py_syntax.specs.Headers.{Marked, is_match}
use Rattle.py_syntax.specs.Statements.{case_name}
use Rattle.py_grammar.specs.Machine as expression
use Rattle.py_grammar.specs.Machine.{one, start, class}
use Rattle.py_grammar.specs.Least as expression_least
use Rattle.py_grammar.specs.Least.{least_name}
use Rattle.py_parse_pattern.specs.Machine as pattern
use Rattle.py_grammar.proofs.Least.LeastNeverFalls as rising
use Rattle.py_parse_pattern.proofs.Least as pattern_least
use Rattle.py_statements.specs.Open.{no_end, newline_end, semicolon_end, both_end, SuiteOf, a_clause, a_def, a_case, closed, SuiteStack, inside, add}
use Rattle.py_statements.specs.Machine.{leaving, clause_kind, subject, default, Place, Reading, Matching, Simple, Semicolon, Leaving, NameWanted, NameRead, BoundWanted, BoundRead, ModuleWanted, ImportWanted, FunctionWanted, ParamsWanted, ParamWanted, ParamRead, Except, ClauseBound, ColonWanted, SuiteWanted, IndentWanted, MatchLine, MatchBlock, Span, State, Line, at, After, Choosing, Over, begun_at, onward, goal, wanted, line, next_part, is_whole, left, resume, resume_pattern, act, choose, at_line, on_line, plain_step, header_step, step}
use Rattle.py_statements.specs.Listed.{is_some, froms, with_name, may_bind}
use Rattle.py_parse.specs.Least.{pass_line, ended, chosen, ending, closing, a_statement, a_header, resumed, form, complete, finished, least_height, least_nesting}
use Rattle.py_parse.proofs.Least.GrowthParts.{case_height, case_nesting, Low, Under, low_same, low_trans, under_same, under_trans, under_ended, suite_under, ending_low, added_low}
use Rattle.py_parse.proofs.Least.GrowthForms.{pass_only, passed, core, low_to, clause_under, case_under, resumed_under, param_under, default_under, GoesOn, next_goes_on}
use Rattle.py_parse.proofs.Least.Growth.{Rises, rises_from, place_low, over_line_low, simple_rises, header_rises, begins_low, reads_rise, begin_simple_rises, line_rises, default_rises, resume_rises, pattern_rises, listed_under, name_rises}

-- ---- a token in a statement or a header

suite_low : (o : SuiteOf) (j i : Bool) (n : Span) (b : SuiteStack) → Low (complete (a_header j o) n b) (closing 0 (inside no_stmts i n.first n.last n.begun o b))
suite_low o j i n b = ending_low b n.last 0 n.begun n.last n.begun 0 (ended n.last (closed o (suite n.first n.last j (pass_line n.last)))) (ended 0 (closed o (suite n.first n.last i (pass_line 0)))) no_end no_end (suite_under o n.last 0 n.first n.last n.first n.last j i (pass_line n.last) (pass_line 0) (omega arith, omega arith))

act_rises : (p : Place) (n : Span) (b : SuiteStack) (t : Kind) (f l : ℕ) → Rises (complete (form p n.last) n b) (act p n b t f l)
act_rises (Reading r s) n b t f l = go (expression.step s (class t)) (rising.step_grows s (class t))
  where
    go : (w : expression.Out) → rising.Grows (expression_least.least s) w → Rises (complete (form (Reading r s) n.last) n b) (elim w as (λ (w : expression.Out). Option State) [ expression.Next s' ↦ Some (at (Reading r s') (onward n l) b) | expression.Stuck ↦ None | expression.Left e ↦ resume r e n b t l ])
    go (expression.Next s') h = place_low (form (Reading r s) n.last) (form (Reading r s') l) n (onward n l) b (resumed_under r (expression_least.finished s) (expression_least.finished s') n.last l h)
    go expression.Stuck h = tt
    go (expression.Left e) h = resume_rises r (expression_least.finished s) e n b t l h
act_rises (Matching e last cs s) n b t f l = go (pattern.step s t) (pattern_least.step_grows s t)
  where
    go : (w : pattern.Out) → pattern_least.Grows (pattern.least s) w → Rises (complete (form (Matching e last cs s) n.last) n b) (elim w as (λ (w : pattern.Out). Option State) [ pattern.Next s' ↦ Some (at (Matching e last cs s') (onward n l) b) | pattern.Stuck ↦ None | pattern.Left p ↦ resume_pattern e last cs p n b t l ])
    go (pattern.Next s') h = place_low (form (Matching e last cs s) n.last) (form (Matching e last cs s') l) n (onward n l) b (case_under e last cs (pattern.finished s) (pattern.finished s') None None h (omega arith))
    go pattern.Stuck h = tt
    go (pattern.Left p) h = pattern_rises e last cs s p n b t l h
act_rises (Simple k) n b t f l = simple_rises k (a_statement k newline_end) n b t l (under_same k)
act_rises (Semicolon k) n b Newline f l = over_line_low b n.last l n.begun n.last k both_end
act_rises (Semicolon k) n b t f l = begin_simple_rises (complete (form (Semicolon k) n.last) n b) (add b n.begun n.last k semicolon_end) t f l (low_trans (ending n.last b n.begun n.last k both_end) (ending n.last b n.begun n.last k semicolon_end) (closing 0 (add b n.begun n.last k semicolon_end)) (ending_low b n.last n.last n.begun n.last n.begun n.last k k both_end semicolon_end (under_same k)) (added_low b n.last 0 n.begun n.last k semicolon_end))
act_rises (Leaving raises) n b (Sign mark.Semicolon) f l = simple_rises (left raises None) (form (Leaving raises) n.last) n b (Sign mark.Semicolon) l (under_same (left raises None))
act_rises (Leaving raises) n b Newline f l = simple_rises (left raises None) (form (Leaving raises) n.last) n b Newline l (under_same (left raises None))
act_rises (Leaving raises) n b t f l = reads_rise (complete (form (Leaving raises) n.last) n b) (leaving raises) (onward n l) b (expression.step (start (goal (leaving raises))) (class t)) (λ s. place_low (form (Leaving raises) n.last) (form (Reading (leaving raises) s) l) n (onward n l) b (leaving_under raises (expression_least.finished s)))
  where
    leaving_under : (raises : Bool) (e : Expr) → Under (left raises None) (left raises (Some e))
    leaving_under true e = (omega arith, omega arith)
    leaving_under false e = (omega arith, omega arith)
act_rises (NameWanted xs) n b (Name x) f l = place_low (form (NameWanted xs) n.last) (form (NameRead xs x) l) n (onward n l) b (listed_under (with_name xs [] None) (with_name xs x None))
act_rises (NameWanted xs) n b t f l = tt
act_rises (NameRead xs x) n b (Word word.As) f l = go (may_bind xs)
  where
    go : (c : Bool) → Rises (complete (form (NameRead xs x) n.last) n b) (cond c (Some (at (BoundWanted xs x) (onward n l) b)) None)
    go true = place_low (form (NameRead xs x) n.last) (form (BoundWanted xs x) l) n (onward n l) b (listed_under (with_name xs x None) (with_name xs x (Some [])))
    go false = tt
act_rises (NameRead xs x) n b t f l = name_rises (with_name xs x None) (with_name xs x None) newline_end n b t l
act_rises (BoundWanted xs x) n b (Name y) f l = place_low (form (BoundWanted xs x) n.last) (form (BoundRead (with_name xs x (Some y))) l) n (onward n l) b (listed_under (with_name xs x (Some [])) (with_name xs x (Some y)))
act_rises (BoundWanted xs x) n b t f l = tt
act_rises (BoundRead xs) n b t f l = name_rises xs xs newline_end n b t l
act_rises ModuleWanted n b (Name m) f l = place_low (form ModuleWanted n.last) (form (ImportWanted m) l) n (onward n l) b (omega arith, omega arith)
act_rises ModuleWanted n b t f l = tt
act_rises (ImportWanted m) n b (Word word.Import) f l = place_low (form (ImportWanted m) n.last) (form (NameWanted (froms m [])) l) n (onward n l) b (omega arith, omega arith)
act_rises (ImportWanted m) n b t f l = tt
act_rises FunctionWanted n b (Name x) f l = place_low (form FunctionWanted n.last) (form (ParamsWanted x) l) n (onward n l) b (omega arith, omega arith)
act_rises FunctionWanted n b t f l = tt
act_rises (ParamsWanted x) n b (Sign mark.LeftParen) f l = place_low (form (ParamsWanted x) n.last) (form (ParamWanted x [] no_exprs) l) n (onward n l) b (omega arith, omega arith)
act_rises (ParamsWanted x) n b t f l = tt
act_rises (ParamWanted x ps ds) n b (Name y) f l = place_low (form (ParamWanted x ps ds) n.last) (form (ParamRead x ps ds y) l) n (onward n l) b (param_under x ps ds y (is_some ps))
act_rises (ParamWanted x ps ds) n b (Sign mark.RightParen) f l = place_low (form (ParamWanted x ps ds) n.last) (form (ColonWanted (a_def x ps ds (is_some ps))) l) n (onward n l) b (omega arith, omega arith)
act_rises (ParamWanted x ps ds) n b t f l = tt
act_rises (ParamRead x ps ds y) n b (Sign mark.Equal) f l = place_low (form (ParamRead x ps ds y) n.last) (resumed (default x ps ds y) least_name l) n (onward n l) b (default_under x ps ds y)
act_rises (ParamRead x ps no_exprs y) n b t f l = default_rises x (ps ++ y ∷ []) no_exprs (form (ParamRead x ps no_exprs y) n.last) n b t l (omega arith, omega arith)
act_rises (ParamRead x ps (exprs d ds) y) n b t f l = tt
act_rises (Except body cs) n b (Sign mark.Colon) f l = header_rises (a_clause body cs None None) (form (Except body cs) n.last) n b (Sign mark.Colon) l (under_same (passed (a_clause body cs None None)))
act_rises (Except body cs) n b t f l = reads_rise (complete (form (Except body cs) n.last) n b) (clause_kind body cs) (onward n l) b (expression.step (start one) (class t)) (λ s. place_low (form (Except body cs) n.last) (form (Reading (clause_kind body cs) s) l) n (onward n l) b (clause_under body cs None (Some (expression_least.finished s)) None None (omega arith)))
act_rises (ClauseBound body cs e) n b (Name x) f l = place_low (form (ClauseBound body cs e) n.last) (form (ColonWanted (a_clause body cs (Some e) (Some x))) l) n (onward n l) b (clause_under body cs (Some e) (Some e) (Some []) (Some x) (omega arith))
act_rises (ClauseBound body cs e) n b t f l = tt
act_rises (ColonWanted o) n b t f l = header_rises o (form (ColonWanted o) n.last) n b t l (under_same (passed o))
act_rises (SuiteWanted o) n b Newline f l = place_low (form (SuiteWanted o) n.last) (form (IndentWanted o) n.last) n n b (under_same (passed o))
act_rises (SuiteWanted o) n b t f l = begin_simple_rises (complete (form (SuiteWanted o) n.last) n b) (inside no_stmts true n.first n.last n.begun o b) t f l (suite_low o true true n b)
act_rises (IndentWanted o) n b Indent f l = suite_low o false false n b
act_rises (IndentWanted o) n b t f l = tt
act_rises (MatchLine e last) n b Newline f l = place_low (form (MatchLine e last) n.last) (form (MatchBlock e last) n.last) n n b (omega arith, omega arith)
act_rises (MatchLine e last) n b t f l = tt
act_rises (MatchBlock e last) n b Indent f l = ending_low b n.last 0 n.begun n.last n.begun 0 (chosen n.last e last no_cases) (chosen 0 e last no_cases) no_end no_end (omega arith, omega arith)
act_rises (MatchBlock e last) n b t f l = tt

-- ---- between the cases of a `match`

choose_rises : (e : Expr) (last : ℕ) (cs : Cases) (first : ℕ) (b : SuiteStack) (t : Kind) (f l : ℕ) → Rises (finished (Choosing e last cs first b)) (choose e last cs first b t f l)
choose_rises e last cs first b (Name x) f l = go (bytes_eq x case_name)
  where
    begins : (cs : Cases) → Under (chosen 0 e last cs) (passed (a_case e last cs wild None))
    begins no_cases = (omega arith, omega arith)
    begins (case p g s cs) = let a = case_height (case p g s cs) wild None pass_only in let c = case_nesting (case p g s cs) wild None pass_only in (omega arith, omega arith)

    go : (c : Bool) → Rises (finished (Choosing e last cs first b)) (cond c (Some (at (Matching e last cs pattern.start) (record { begun = first; first = f; last = l }) b)) None)
    go true = low_to (form (Matching e last cs pattern.start) l) (record { begun = first; first = f; last = l }) b 0 first 0 (chosen 0 e last cs) no_end (begins cs)
    go false = tt
choose_rises e last (case p g s cs) first b Dedent f l = ending_low b 0 l first 0 first l (match e last (case p g s cs)) (match e last (case p g s cs)) no_end no_end (under_same (match e last (case p g s cs)))
choose_rises e last cs first b t f l = tt

-- ---- steps

-- the open suites, where a statement may begin
abbrev Rests : Stmts → Option SuiteStack → Type 0
Rests m None = Unit {0}
Rests m (Some b) = Low m (closing 0 b)

at_line_rests : (s : State) → Rests (finished s) (at_line s)
at_line_rests (Line b) = low_same (closing 0 b)
at_line_rests (at p n b) = tt
at_line_rests (After k first last b) = go (is_whole k)
  where
    go : (c : Bool) → Rests (finished (After k first last b)) (cond c (Some (add b first last k no_end)) None)
    go true = low_trans (ending last b first last (ended last k) no_end) (ending last b first last k no_end) (closing 0 (add b first last k no_end)) (ending_low b last last first last first last (ended last k) k no_end no_end (under_ended last k)) (added_low b last 0 first last k no_end)
    go false = tt
at_line_rests (Choosing e last cs first b) = tt
at_line_rests (Over ss) = tt

on_line_rises : (m : Stmts) (o : Option SuiteStack) (t : Kind) (f l : ℕ) → Rests m o → Rises m (on_line o t f l)
on_line_rises m None t f l h = tt
on_line_rises m (Some b) t f l h = rises_from m (closing 0 b) (line b t f l) h (line_rises b t f l)

plain_rises : (s : State) (t : Kind) (f l : ℕ) → Rises (finished s) (plain_step s t f l)
plain_rises (Line b) t f l = line_rises b t f l
plain_rises (at p n b) t f l = act_rises p n b t f l
plain_rises (After k first last b) t f l = go (next_part k t) (next_goes_on k t)
  where
    go : (o : Option Place) → GoesOn k o → Rises (finished (After k first last b)) (elim o as (λ (w : Option Place). Option State) [ Some p ↦ Some (at p (record { begun = first; first = f; last = l }) b) | None ↦ on_line (at_line (After k first last b)) t f l ])
    go (Some p) h = low_to (form p l) (record { begun = first; first = f; last = l }) b last first last (ended last k) no_end (under_trans (ended last k) k (core (form p l)) (under_ended last k) (h l))
    go None h = on_line_rises (finished (After k first last b)) (at_line (After k first last b)) t f l (at_line_rests (After k first last b))
plain_rises (Choosing e last cs first b) t f l = choose_rises e last cs first b t f l
plain_rises (Over ss) t f l = tt

header_line_rises : (m : Stmts) (o : Option SuiteStack) (t : Kind) (f l : ℕ) → Rests m o → Rises m (header_step o t f l)
header_line_rises m None t f l h = tt
header_line_rises m (Some b) t f l h = go (is_match t)
  where
    go : (c : Bool) → Rises m (cond c (Some (at (wanted subject) (begun_at f l) b)) None)
    go true = begins_low m b (wanted subject) (begun_at f l) h
    go false = tt

step_rises : (s : State) (m : Marked) (f l : ℕ) → Rises (finished s) (step s m f l)
step_rises s m f l = go m.header
  where
    go : (c : Bool) → Rises (finished s) (cond c (header_step (at_line s) m.kind f l) (plain_step s m.kind f l))
    go true = header_line_rises (finished s) (at_line s) m.kind f l (at_line_rests s)
    go false = plain_rises s m.kind f l

-- No step makes the least tree lower, or less deep.
pub grows : (s n : State) (m : Marked) (f l : ℕ) → step s m f l ≡ Some n → (least_height s ≤ least_height n) × (least_nesting s ≤ least_nesting n)
grows s n m f l h = subst (Rises (finished s)) h (step_rises s m f l)
