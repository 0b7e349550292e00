-- Steps of the machine, as the code comes to them.
use Rattle.std.proofs.Common.{◌≡◌, ℕ, Bool, true, false, cond, ◌&&◌, List, [], ◌∷◌, ◌++◌, reverse, Option, Some, None, option_map, Result, Ok, Err, IfOk, refl, sym, ap, subst, ◌∙◌}
use Rattle.std.specs.declared.alloc.AllocError.{AllocError}
use Rattle.py_operator.specs.declared.operator.BinOp.{BinOp}
use Rattle.py_token.specs.declared.token.Mark.TheVariants as mark
use Rattle.py_token.specs.declared.token.Token.{Token}
use Rattle.py_syntax.specs.Tree.{Text, Expr, Exprs, no_exprs, exprs, Stmts, no_stmts, stmt, Suite, suite, Clauses, expr, Cases, no_cases, case, StmtKind, assert, match}
use Rattle.py_syntax.specs.View.{plain_stmts}
use Rattle.py_syntax.specs.Kinds.{Kind, Name, Sign, Newline, Dedent, End}
use Rattle.py_syntax.specs.Headers.{is_colon}
use Rattle.py_syntax.specs.Normal.{is_target, is_place}
use Rattle.py_syntax.specs.declared.stmt.LineEnd.{LineEnd}
use Rattle.py_grammar.specs.Machine.{snoc, start}
use Rattle.py_parse_pattern.specs.Machine as pattern
use Rattle.py_statements.specs.declared.places.Place as code_place
use Rattle.py_statements.specs.declared.places.State as code_state
use Rattle.py_statements.specs.declared.suite_stack.Open.{Open}
use Rattle.py_statements.specs.declared.suite_of.SuiteOf as code_suite_of
use Rattle.py_statements.specs.declared.places.Turn.{Turn}
use Rattle.py_statements.specs.Open.{SuiteOf, a_clause, a_def, a_case, newline_end, semicolon_end, SuiteStack, top, inside, add}
use Rattle.py_statements.specs.Machine.{Place, Line, Semicolon, Leaving, After, Over, Matching, choose, close, over_suite, over_line, begin_line, line, value, augmented, default, ParamWanted, ParamRead, ColonWanted, SuiteWanted, IndentWanted, Except, Span, State, at, wanted, onward, left, after_name, in_place_op, assigned, end_simple, end_header, begin_simple, after_value, after_default, asserted, resume, act}
use Rattle.py_statements.specs.Listed.{Listed, listed}
use Rattle.py_statements.specs.ViewLists.{some_exprs, some_cases, is_equal_sign, is_semicolon, ends_simple, is_comma, is_right_paren, is_dedent, is_end, is_case}
use Rattle.py_statements.specs.ViewMarks.{is_newline}
use Rattle.py_statements.specs.ViewStates.{kind_at, first_at, last_at, Acts, view_state, view_place, suite_stack, Opens, SharesLine, is_closable, is_top, Made, Makes, ActsAs, TurnsInto}
use Rattle.py_statements.specs.ViewSuiteOf.{view_suite_of}

-- ---- simple statements end

pub simple_semicolon : (k : StmtKind) (n : Span) (b : SuiteStack) (t : Kind) (l : ℕ) → is_semicolon t ≡ true → end_simple k n b t l ≡ Some (at (Semicolon k) n b)
simple_semicolon k n b (Sign mark.Semicolon) l h = refl
simple_semicolon k n b t l h = absurd cc

pub simple_newline : (k : StmtKind) (n : Span) (b : SuiteStack) (t : Kind) (l : ℕ) (s : State) → is_newline t ≡ true → s ≡ over_line (add b n.begun n.last k newline_end) l → end_simple k n b t l ≡ Some s
simple_newline k n b Newline l s h i = sym (ap (λ (w : State). Some w) i)
simple_newline k n b t l s h i = absurd cc

pub simple_goes_on : (k : StmtKind) (n : Span) (b : SuiteStack) (t : Kind) (l : ℕ) → is_semicolon t ≡ false → is_newline t ≡ false → end_simple k n b t l ≡ None
simple_goes_on k n b (Sign mark.Semicolon) l h i = absurd cc
simple_goes_on k n b Newline l h i = absurd cc
simple_goes_on k n b t l h i = refl

semicolon_begins : (k : StmtKind) (n : Span) (b : SuiteStack) (t : Kind) (f l : ℕ) → is_newline t ≡ false → begin_simple (add b n.begun n.last k semicolon_end) t f l ≡ act (Semicolon k) n b t f l
semicolon_begins k n b Newline f l h = absurd cc
semicolon_begins k n b t f l h = refl

pub semicolon_turn : (k : StmtKind) (n : Span) (b c : SuiteStack) (t : Token) (e : LineEnd) (r : Result Turn AllocError) → is_newline (kind_at t) ≡ false → e ≡ semicolon_end → c ≡ add b n.begun n.last k e → Acts t (begin_simple c (kind_at t) (first_at t) (last_at t)) r → Acts t (act (Semicolon k) n b (kind_at t) (first_at t) (last_at t)) r
semicolon_turn k n b c t e r h end is acts =
    let kind = kind_at t in let f = first_at t in let l = last_at t in
    subst (λ (w : Option State). Acts t w r) (ap (λ (d : SuiteStack). begin_simple d kind f l) (is ∙ ap (λ (x : LineEnd). add b n.begun n.last k x) end) ∙ semicolon_begins k n b kind f l h) acts

-- the state that a token leads to, where there is one, and what the code does then
pub acts_so : (o : Option State) (t : Kind) (f l : ℕ) (s : Option code_state.State) (turn : Turn) → o ≡ option_map view_state s → ((t : Kind) (f l : ℕ) → ActsAs t f l (option_map view_state s) turn) → ActsAs t f l o turn
acts_so o t f l s turn is acts = subst (λ (w : Option State). ActsAs t f l w turn) (sym is) (acts t f l)

pub acts_in : (held : code_place.Place) (p : Place) (n : Span) (b : SuiteStack) (t : Kind) (f l : ℕ) (s : Option code_state.State) (turn : Turn) → view_place held ≡ p → act p n b t f l ≡ option_map view_state s → ((t : Kind) (f l : ℕ) → ActsAs t f l (option_map view_state s) turn) → ActsAs t f l (act (view_place held) n b t f l) turn
acts_in held p n b t f l s turn same is acts = acts_so (act (view_place held) n b t f l) t f l s turn (ap (λ (q : Place). act q n b t f l) same ∙ is) acts

-- what is made, and what the code does then
pub turns_so : (made : Made) (s : Option code_state.State) (turn : Turn) → made ≡ Ok s → ((t : Kind) (f l : ℕ) → ActsAs t f l (option_map view_state s) turn) → TurnsInto made (Ok turn)
turns_so made s turn is acts t o m = acts_so o (kind_at t) (first_at t) (last_at t) s turn (subst (λ (r : Made). Makes o r) is m) acts

pub leaving_makes : (r : Bool) (n : Span) (b : SuiteStack) (t : Kind) (f l : ℕ) (m : Made) → ends_simple t ≡ true → Makes (end_simple (left r None) n b t l) m → Makes (act (Leaving r) n b t f l) m
leaving_makes r n b (Sign mark.Semicolon) f l m h makes = makes
leaving_makes r n b Newline f l m h makes = makes
leaving_makes r n b t f l m h makes = absurd cc

-- ---- values

pub value_targets : (ts : Exprs) (e : Expr) (n : Span) (b : SuiteStack) (k : Kind) (l : ℕ) (r : Result (Option code_state.State) AllocError) → is_equal_sign k ≡ true → Makes (cond (is_target e) (Some (at (wanted (value (snoc ts e))) (onward n l) b)) None) r → Makes (after_value ts e n b k l) r
value_targets ts e n b (Sign mark.Equal) l r h m = m
value_targets ts e n b k l r h m = absurd cc

pub value_assigns : (ts : Exprs) (e : Expr) (n : Span) (b : SuiteStack) (k : Kind) (l : ℕ) (r : Result (Option code_state.State) AllocError) → is_equal_sign k ≡ false → some_exprs ts ≡ true → Makes (end_simple (assigned ts e) n b k l) r → Makes (after_value ts e n b k l) r
value_assigns no_exprs e n b k l r h i m = absurd cc
value_assigns (exprs t ts) e n b (Sign mark.Equal) l r h i m = absurd cc
value_assigns (exprs t ts) e n b k l r h i m = m

pub value_alone : (ts : Exprs) (e : Expr) (n : Span) (b : SuiteStack) (k : Kind) (l : ℕ) (r : Result (Option code_state.State) AllocError) → some_exprs ts ≡ false → Makes (after_value no_exprs e n b k l) r → Makes (after_value ts e n b k l) r
value_alone no_exprs e n b k l r i m = m
value_alone (exprs t ts) e n b k l r i m = absurd cc

abbrev after_op : Expr → Span → SuiteStack → Kind → ℕ → Option BinOp → Option State
after_op e n b t l o = elim o as (λ (o : Option BinOp). Option State) [ Some op ↦ cond (is_place e) (Some (at (wanted (augmented e op)) (onward n l) b)) None | None ↦ end_simple (expr e) n b t l ]

op_is : (e : Expr) (n : Span) (b : SuiteStack) (k : Kind) (l : ℕ) → is_equal_sign k ≡ false → after_value no_exprs e n b k l ≡ after_op e n b k l (in_place_op k)
op_is e n b (Sign mark.Equal) l h = absurd cc
op_is e n b k l h = refl

pub value_ends : (e : Expr) (n : Span) (b : SuiteStack) (k : Kind) (l : ℕ) (r : Result (Option code_state.State) AllocError) → is_equal_sign k ≡ false → None ≡ in_place_op k → Makes (end_simple (expr e) n b k l) r → Makes (after_value no_exprs e n b k l) r
value_ends e n b k l r h i m = subst (λ (o : Option State). Makes o r) (ap (after_op e n b k l) i ∙ sym (op_is e n b k l h)) m

pub value_misplaced : (e : Expr) (n : Span) (b : SuiteStack) (k : Kind) (l : ℕ) (op : BinOp) → is_equal_sign k ≡ false → Some op ≡ in_place_op k → is_place e ≡ false → after_value no_exprs e n b k l ≡ None
value_misplaced e n b k l op h i p = op_is e n b k l h ∙ ap (after_op e n b k l) (sym i) ∙ ap (λ (c : Bool). cond c (Some (at (wanted (augmented e op)) (onward n l) b)) None) p

pub value_augments : (e : Expr) (n : Span) (b : SuiteStack) (k : Kind) (l : ℕ) (op : BinOp) (q : Span) → is_equal_sign k ≡ false → Some op ≡ in_place_op k → is_place e ≡ true → q ≡ onward n l → after_value no_exprs e n b k l ≡ Some (at (wanted (augmented e op)) q b)
value_augments e n b k l op q h i p j = op_is e n b k l h ∙ ap (after_op e n b k l) (sym i) ∙ ap (λ (c : Bool). cond c (Some (at (wanted (augmented e op)) (onward n l) b)) None) p ∙ ap (λ (m : Span). Some (at (wanted (augmented e op)) m b)) (sym j)

-- ---- parameters

pub param_default : (x : Text) (ps : List Text) (ds : Exprs) (y : Text) (n : Span) (b : SuiteStack) (k : Kind) (f l : ℕ) (q : Span) → is_equal_sign k ≡ true → q ≡ onward n l → act (ParamRead x ps ds y) n b k f l ≡ Some (at (wanted (default x ps ds y)) q b)
param_default x ps ds y n b (Sign mark.Equal) f l q h j = ap (λ (m : Span). Some (at (wanted (default x ps ds y)) m b)) (sym j)
param_default x ps ds y n b k f l q h j = absurd cc

pub param_late : (x : Text) (ps : List Text) (ds : Exprs) (y : Text) (n : Span) (b : SuiteStack) (k : Kind) (f l : ℕ) → is_equal_sign k ≡ false → some_exprs ds ≡ true → act (ParamRead x ps ds y) n b k f l ≡ None
param_late x ps no_exprs y n b k f l h i = absurd cc
param_late x ps (exprs d ds) y n b (Sign mark.Equal) f l h i = absurd cc
param_late x ps (exprs d ds) y n b k f l h i = refl

pub param_ends : (x x' : Text) (ps qs : List Text) (ds es : Exprs) (y : Text) (n : Span) (b : SuiteStack) (k : Kind) (f l : ℕ) (o : Option State) → is_equal_sign k ≡ false → some_exprs ds ≡ false → x' ≡ x → qs ≡ ps ++ y ∷ [] → es ≡ ds → after_default x' qs es n b k l ≡ o → act (ParamRead x ps ds y) n b k f l ≡ o
param_ends x x' ps qs ds es y n b k f l o h i same more with_same is =
    go ds i ∙ sym (ap (λ (z : Text). after_default z qs es n b k l) same ∙ ap (λ (zs : List Text). after_default x zs es n b k l) more ∙ ap (λ (zs : Exprs). after_default x (ps ++ y ∷ []) zs n b k l) with_same) ∙ is
  where
    plainly : (k : Kind) → is_equal_sign k ≡ false → act (ParamRead x ps no_exprs y) n b k f l ≡ after_default x (ps ++ y ∷ []) no_exprs n b k l
    plainly (Sign mark.Equal) h = absurd cc
    plainly k h = refl

    go : (ds : Exprs) → some_exprs ds ≡ false → act (ParamRead x ps ds y) n b k f l ≡ after_default x (ps ++ y ∷ []) ds n b k l
    go no_exprs i = plainly k h
    go (exprs d ds) i = absurd cc

pub default_more : (x : Text) (ps : List Text) (ds : Exprs) (n q : Span) (b : SuiteStack) (k : Kind) (l : ℕ) → is_comma k ≡ true → q ≡ onward n l → after_default x ps ds n b k l ≡ Some (at (ParamWanted x ps ds) q b)
default_more x ps ds n q b (Sign mark.Comma) l h j = ap (λ (m : Span). Some (at (ParamWanted x ps ds) m b)) (sym j)
default_more x ps ds n q b k l h j = absurd cc

pub default_closes : (x : Text) (ps : List Text) (ds : Exprs) (n q : Span) (b : SuiteStack) (k : Kind) (l : ℕ) → is_right_paren k ≡ true → q ≡ onward n l → after_default x ps ds n b k l ≡ Some (at (ColonWanted (a_def x ps ds false)) q b)
default_closes x ps ds n q b (Sign mark.RightParen) l h j = ap (λ (m : Span). Some (at (ColonWanted (a_def x ps ds false)) m b)) (sym j)
default_closes x ps ds n q b k l h j = absurd cc

pub default_none : (x : Text) (ps : List Text) (ds : Exprs) (n : Span) (b : SuiteStack) (k : Kind) (l : ℕ) → is_comma k ≡ false → is_right_paren k ≡ false → after_default x ps ds n b k l ≡ None
default_none x ps ds n b (Sign mark.Comma) l h i = absurd cc
default_none x ps ds n b (Sign mark.RightParen) l h i = absurd cc
default_none x ps ds n b k l h i = refl

-- ---- the test of an `assert`

pub test_ends : (e : Expr) (n : Span) (b : SuiteStack) (t : Kind) (l : ℕ) (r : Made) → is_comma t ≡ false → Makes (end_simple (assert e None) n b t l) r → Makes (resume asserted e n b t l) r
test_ends e n b (Sign mark.Comma) l r h m = absurd cc
test_ends e n b t l r h m = m

-- ---- names

pub name_ends : (xs : Listed) (n : Span) (b : SuiteStack) (t : Kind) (l : ℕ) (r : Made) → is_comma t ≡ false → Makes (end_simple (listed xs) n b t l) r → Makes (after_name xs n b t l) r
name_ends xs n b t l r h m = subst (λ (o : Option State). Makes o r) (go t h) m
  where
    go : (t : Kind) → is_comma t ≡ false → end_simple (listed xs) n b t l ≡ after_name xs n b t l
    go (Sign mark.Comma) h = absurd cc
    go t h = refl

-- ---- suites

pub suite_line : (o : SuiteOf) (n : Span) (b : SuiteStack) (k : Kind) (f l : ℕ) → is_newline k ≡ true → act (SuiteWanted o) n b k f l ≡ Some (at (IndentWanted o) n b)
suite_line o n b Newline f l h = refl
suite_line o n b k f l h = absurd cc

suite_begins : (o : SuiteOf) (n : Span) (b : SuiteStack) (k : Kind) (f l : ℕ) → is_newline k ≡ false → begin_simple (inside no_stmts true n.first n.last n.begun o b) k f l ≡ act (SuiteWanted o) n b k f l
suite_begins o n b Newline f l h = absurd cc
suite_begins o n b k f l h = refl

pub suite_turn : (o : SuiteOf) (n : Span) (b c : SuiteStack) (t : Token) (r : Result Turn AllocError) → is_newline (kind_at t) ≡ false → c ≡ inside no_stmts true n.first n.last n.begun o b → Acts t (begin_simple c (kind_at t) (first_at t) (last_at t)) r → Acts t (act (SuiteWanted o) n b (kind_at t) (first_at t) (last_at t)) r
suite_turn o n b c t r h is acts =
    let k = kind_at t in let f = first_at t in let l = last_at t in
    subst (λ (w : Option State). Acts t w r) (ap (λ (d : SuiteStack). begin_simple d k f l) is ∙ suite_begins o n b k f l h) acts

pub except_makes : (body : Suite) (cs : Clauses) (n : Span) (b : SuiteStack) (k : Kind) (f l : ℕ) (m : Made) → is_colon k ≡ true → Makes (end_header (a_clause body cs None None) n b k l) m → Makes (act (Except body cs) n b k f l) m
except_makes body cs n b (Sign mark.Colon) f l m h makes = makes
except_makes body cs n b k f l m h makes = absurd cc

-- ---- between cases

pub choose_ends : (e : Expr) (last : ℕ) (cs : Cases) (first : ℕ) (b : SuiteStack) (k : Kind) (f l : ℕ) (m : StmtKind) → is_dedent k ≡ true → some_cases cs ≡ true → m ≡ match e last cs → choose e last cs first b k f l ≡ Some (After m first l b)
choose_ends e last no_cases first b k f l m h i j = absurd cc
choose_ends e last (case p g s cs) first b Dedent f l m h i j = ap (λ (x : StmtKind). Some (After x first l b)) (sym j)
choose_ends e last (case p g s cs) first b k f l m h i j = absurd cc

pub choose_empty : (e : Expr) (last : ℕ) (cs : Cases) (first : ℕ) (b : SuiteStack) (k : Kind) (f l : ℕ) → is_dedent k ≡ true → some_cases cs ≡ false → choose e last cs first b k f l ≡ None
choose_empty e last no_cases first b Dedent f l h i = refl
choose_empty e last no_cases first b k f l h i = absurd cc
choose_empty e last (case p g s cs) first b k f l h i = absurd cc

pub choose_case : (e : Expr) (last : ℕ) (cs : Cases) (first : ℕ) (b : SuiteStack) (k : Kind) (f l : ℕ) → is_case k ≡ true → choose e last cs first b k f l ≡ Some (at (Matching e last cs pattern.start) (record { begun = first; first = f; last = l }) b)
choose_case e last cs first b (Name x) f l h = ap (λ (c : Bool). cond c (Some (at (Matching e last cs pattern.start) (record { begun = first; first = f; last = l }) b)) None) h
choose_case e last cs first b k f l h = absurd cc

pub choose_other : (e : Expr) (last : ℕ) (cs : Cases) (first : ℕ) (b : SuiteStack) (k : Kind) (f l : ℕ) → is_dedent k ≡ false → is_case k ≡ false → choose e last cs first b k f l ≡ None
choose_other e last cs first b (Name x) f l h i = ap (λ (c : Bool). cond c (Some (at (Matching e last cs pattern.start) (record { begun = first; first = f; last = l }) b)) None) i
choose_other e last (case p g s cs) first b Dedent f l h i = absurd cc
choose_other e last (case p g s cs) first b k f l h i = refl
choose_other e last no_cases first b k f l h i = refl

-- ---- lines

pub line_over : (ss : Stmts) (os : List Open) (k : Kind) (f l : ℕ) → is_end k ≡ true → is_top (suite_stack ss os) ≡ true → line (suite_stack ss os) k f l ≡ Some (Over ss)
line_over ss [] End f l h i = refl
line_over ss [] k f l h i = absurd cc
line_over ss (o ∷ os) k f l h i = absurd cc

pub line_closes : (b : SuiteStack) (k : Kind) (f l : ℕ) (s : State) → is_dedent k ≡ true → is_closable b ≡ true → s ≡ close b l → line b k f l ≡ Some s
line_closes (inside (stmt f' l' k' e ss) false x y begun o b) Dedent f l s h i j = ap (λ (w : State). Some w) (sym j)
line_closes (inside (stmt f' l' k' e ss) false x y begun o b) k f l s h i j = absurd cc
line_closes b k f l s h i j = absurd cc

pub line_begins : (b : SuiteStack) (t : Token) (r : Result Turn AllocError) → (is_end (kind_at t) && is_top b) ≡ false → (is_dedent (kind_at t) && is_closable b) ≡ false → Acts t (begin_line b (kind_at t) (first_at t) (last_at t)) r → Acts t (line b (kind_at t) (first_at t) (last_at t)) r
line_begins b t r h i acts =
    let f = first_at t in let l = last_at t in
    subst (λ (o : Option State). Acts t o r) (same b f l (kind_at t) h i) acts
  where
    same : (b : SuiteStack) (f l : ℕ) (k : Kind) → (is_end k && is_top b) ≡ false → (is_dedent k && is_closable b) ≡ false → begin_line b k f l ≡ line b k f l
    same (top ss) f l End h i = absurd cc
    same (top ss) f l k h i = refl
    same (inside (stmt f' l' k' e ss) false x y begun o b) f l Dedent h i = absurd cc
    same (inside (stmt f' l' k' e ss) false x y begun o b) f l k h i = refl
    same (inside (stmt f' l' k' e ss) true x y begun o b) f l k h i = refl
    same (inside no_stmts i' x y begun o b) f l k h i = refl

-- ---- suites end

pub shared_line : (b : SuiteStack) (c : Bool) (l : ℕ) (s : State) → SharesLine b c → c ≡ true → s ≡ close b l → s ≡ over_line b l
shared_line b c l s h is same = same ∙ sym (h l ∙ ap (λ (x : Bool). cond x (close b l) (Line b)) is)

pub close_inside : (ss : Stmts) (old new : List Open) (l : ℕ) (o : Open) (s : Suite) (w : State) → Opens ss old new (Some o) → s ≡ suite o.span.first o.span.last o.inline ss → w ≡ over_suite (view_suite_of o.suite_of.value) s o.span.begun l (suite_stack (plain_stmts o.outer.items) (reverse new)) → w ≡ close (suite_stack ss (reverse old)) l
close_inside ss old new l o s w h same is =
    let b = suite_stack (plain_stmts o.outer.items) (reverse new) in
    is ∙ ap (λ (x : Suite). over_suite (view_suite_of o.suite_of.value) x o.span.begun l b) same ∙ sym (ap (λ (x : SuiteStack). close x l) h ∙ go (view_suite_of o.suite_of.value) b)
  where
    go : (w : SuiteOf) (b : SuiteStack) → close (inside ss o.inline o.span.first o.span.last o.span.begun w b) l ≡ over_suite w (suite o.span.first o.span.last o.inline ss) o.span.begun l b
    go (a_case e last cs p g) b = refl
    go w b = refl

pub close_made : (ss : Stmts) (old new : List Open) (l : ℕ) (o : Open) (v : code_suite_of.SuiteOf) (s : Suite) (r : Result code_state.State AllocError) → Opens ss old new (Some o) → v ≡ o.suite_of.value → s ≡ suite o.span.first o.span.last o.inline ss → IfOk r (λ w. view_state w ≡ over_suite (view_suite_of v) s o.span.begun l (suite_stack (plain_stmts o.outer.items) (reverse new))) → IfOk r (λ w. view_state w ≡ close (suite_stack ss (reverse old)) l)
close_made ss old new l o v s (Ok w) h own same is = close_inside ss old new l o s (view_state w) h same (is ∙ ap (λ (x : code_suite_of.SuiteOf). over_suite (view_suite_of x) s o.span.begun l (suite_stack (plain_stmts o.outer.items) (reverse new))) own)
close_made ss old new l o v s (Err e) h own same is = tt
