-- What the answers of the code say of the list of tokens.
use Rattle.std.proofs.Common.{◌≡◌, ℕ, ◌+◌, ◌-◌, ◌<◌, ◌≤◌, Bool, true, List, length, get_or, Option, Some, None, option_map, Ok, Err, Vec, sym, ap, subst, ◌∙◌, arith}
use Rattle.std.specs.Prelude.{Box}
use Rattle.std.specs.Global.{Global}
use Rattle.std.proofs.lemmas.List.{length-map}
use Rattle.py_token.specs.declared.token.Token.{Token}
use Rattle.py_token.specs.View.{view_token, view_tokens}
use Rattle.py_syntax.specs.Tree.{Expr, Cases, Pattern, Stmts}
use Rattle.py_syntax.specs.Kinds.{Kind, bare}
use Rattle.py_syntax.specs.Spelling.{HEIGHT, NESTING}
use Rattle.py_syntax.specs.Headers.{is_match}
use Rattle.py_syntax.specs.View.{plain_expr, plain_cases, plain_stmts}
use Rattle.py_syntax.specs.declared.stmt.Stmt.{Stmt}
use Rattle.py_grammar.specs.declared.error.ReadError.{ReadError}
use Rattle.py_grammar.specs.declared.error.ReadError.TheVariants as read_error_
use Rattle.py_grammar.specs.Machine.{Goal, start}
use Rattle.py_grammar.specs.Reading as reading_
use Rattle.py_parse_pattern.specs.Machine as pattern
use Rattle.py_parse_pattern.specs.Reads as pattern_reads
use Rattle.py_statements.specs.declared.places.State as code_state
use Rattle.py_statements.specs.declared.purposes.Continuation as code_continuation
use Rattle.py_statements.specs.declared.suite_of.PartialMatch.{PartialMatch}
use Rattle.py_statements.specs.declared.suite_stack.Span as code_span
use Rattle.py_statements.specs.declared.suite_stack.SuiteStack as code_suites
use Rattle.py_statements.specs.declared.places.Turn.{Turn}
use Rattle.py_statements.specs.declared.places.Turn.TheVariants as turn_
use Rattle.py_parse_expr.specs.declared.exprs.ExprPart.{ExprPart}
use Rattle.py_statements.specs.Open.{SuiteStack}
use Rattle.py_statements.specs.Machine.{Continuation, Span, State, Line, at, After, Choosing, Over, goal, resume, resume_pattern, done, onward, step}
use Rattle.py_statements.specs.Levels.{level}
use Rattle.py_parse.specs.Refusal.{IsUnexpected, HasDeepSuites, HasDeepExpressions, IsParsed}
use Rattle.py_statements.specs.ViewStates.{kind_at, first_at, last_at, view_suites, view_span, view_continuation, view_state, ActsAs, IsDone}
use Rattle.py_parse_expr.specs.ExprReads.{goal_of, FollowsMachine}
use Rattle.py_statements.specs.ViewMarks.{header_at}
use Rattle.py_parse.specs.Progress.{StandsAt, Turns, ReadsFrom, MatchesFrom, ReadsThere, MatchesThere, Resumes}
use Rattle.py_parse.proofs.Exact.ReadsBetween.{first_place, taken, too_deep, stuck, expression_read, pattern_read, whole, too_short}
use Rattle.py_parse.proofs.Exact.ReadsBetween as between
use Rattle.py_statements.proofs.View.HeaderPlaces.{header_match}
use Rattle.py_parse.proofs.View.Turning.{turning, resuming, reading_turn, matching_turn}

pub tokens_length : (tokens : List Token) → length (view_tokens tokens) ≡ length tokens
tokens_length tokens = length-map tokens view_token

-- ---- places

pub stands_inside : (tokens : List Token) (place : ℕ) (s : State) → StandsAt (view_tokens tokens) place s → place ≤ length tokens
stands_inside tokens place s h = let e = tokens_length tokens in let inside = h.inside in omega arith

pub not_first : (tokens : List Token) (place q : ℕ) (o : Span → Kind → ℕ → Option State) (n : Span) → Resumes (view_tokens tokens) place q o n → 1 ≤ q
not_first tokens place q o n h = let later = h.later in omega arith

-- ---- after a token

pub moved_on : (tokens : List Token) (place : ℕ) (s : code_state.State) → place < length tokens → Turns (view_tokens tokens) place (λ t o. o ≡ Some (view_state s)) → level (view_state s) ≤ NESTING → StandsAt (view_tokens tokens) (place + 1) (view_state s)
moved_on tokens place s lt h low = let e = tokens_length tokens in taken (view_tokens tokens) place s (omega arith) h low

pub moved_deep : (tokens : List Token) (place : ℕ) (s : code_state.State) → place < length tokens → Turns (view_tokens tokens) place (λ t o. o ≡ Some (view_state s)) → NESTING < level (view_state s) → HasDeepSuites (view_tokens tokens) place
moved_deep tokens place s lt h over = let e = tokens_length tokens in too_deep (view_tokens tokens) place s (omega arith) h over

pub moved_nowhere : (tokens : List Token) (place : ℕ) → place < length tokens → Turns (view_tokens tokens) place (λ t o. o ≡ None) → IsUnexpected (view_tokens tokens) place
moved_nowhere tokens place lt h = let e = tokens_length tokens in stuck (view_tokens tokens) place (omega arith) h

-- ---- after an expression

pub at_expression : (tokens : List Token) (place q : ℕ) (g : Goal) (r : Continuation) (n : Span) (b : SuiteStack) → place < length tokens → g ≡ goal r → ReadsFrom (view_tokens tokens) place r n b → reading_.EndsAt HEIGHT (start g) (bare (view_tokens tokens)) place q reading_.Unexpected → IsUnexpected (view_tokens tokens) q
at_expression tokens place q g r n b lt is h ends = let e = tokens_length tokens in between.expression_unexpected (view_tokens tokens) place q r n b (omega arith) h (subst (λ (x : Goal). reading_.EndsAt HEIGHT (start x) (bare (view_tokens tokens)) place q reading_.Unexpected) is ends)

pub high_expression : (tokens : List Token) (place q : ℕ) (g : Goal) (r : Continuation) (n : Span) (b : SuiteStack) → place < length tokens → g ≡ goal r → ReadsFrom (view_tokens tokens) place r n b → reading_.EndsAt HEIGHT (start g) (bare (view_tokens tokens)) place q reading_.TooDeep → HasDeepExpressions (view_tokens tokens) q
high_expression tokens place q g r n b lt is h ends = let e = tokens_length tokens in between.expression_too_high (view_tokens tokens) place q r n b (omega arith) h (subst (λ (x : Goal). reading_.EndsAt HEIGHT (start x) (bare (view_tokens tokens)) place q reading_.TooDeep) is ends)

pub after_expression : (tokens : List Token) (place q : ℕ) (g : Goal) (r : Continuation) (n : Span) (b : SuiteStack) (e : Expr) → place < length tokens → g ≡ goal r → ReadsFrom (view_tokens tokens) place r n b → reading_.EndsAt HEIGHT (start g) (bare (view_tokens tokens)) place q (reading_.Reads e) → Resumes (view_tokens tokens) place q (λ m k l. resume r e m b k l) n
after_expression tokens place q g r n b e lt is h ends = let len = tokens_length tokens in expression_read (view_tokens tokens) place q r n b e (omega arith) h (subst (λ (x : Goal). reading_.EndsAt HEIGHT (start x) (bare (view_tokens tokens)) place q (reading_.Reads e)) is ends)

-- the place after it is later, and a token stands there
pub read_later : (tokens : List Token) (place q : ℕ) (o : Span → Kind → ℕ → Option State) (n : Span) → Resumes (view_tokens tokens) place q o n → (place < q) × (q < length tokens)
read_later tokens place q o n h = let e = tokens_length tokens in let inside = h.inside in (h.later, omega arith)

pub expression_turns : (tokens : List Token) (place q : ℕ) (t d : Token) (r : Continuation) (e : Expr) (n m : Span) (b : SuiteStack) (s : Option code_state.State) → t ≡ get_or tokens q t → Resumes (view_tokens tokens) place q (λ m k l. resume r e m b k l) n → m ≡ onward n (last_at (get_or tokens (q - 1) d)) → resume r e m b (kind_at t) (last_at t) ≡ option_map view_state s → Turns (view_tokens tokens) q (λ t o. o ≡ option_map view_state s)
expression_turns tokens place q t d r e n m b s there h same makes =
    let later = read_later tokens place q (λ m k l. resume r e m b k l) n h in
    resuming tokens place q t d (λ m k l. resume r e m b k l) n (option_map view_state s) h later.1 (ap (λ (x : Span). resume r e x b (kind_at (get_or tokens q t)) (last_at (get_or tokens q t))) (sym same) ∙ subst (λ (u : Token). resume r e m b (kind_at u) (last_at u) ≡ option_map view_state s) there makes)

-- ---- why no expression was read

pub expression_unexpected : (tokens : List Token) (place q : ℕ) (part : ExprPart) (e : ReadError) (r : Continuation) (n : Span) (b : SuiteStack) → place < length tokens → goal_of part ≡ goal r → ReadsFrom (view_tokens tokens) place r n b → FollowsMachine (bare (view_tokens tokens)) place part (Err e) → e ≡ read_error_.Unexpected q → IsUnexpected (view_tokens tokens) q
expression_unexpected tokens place q part e r n b lt is h follows same = at_expression tokens place q (goal_of part) r n b lt is h (subst (λ (x : ReadError). FollowsMachine (bare (view_tokens tokens)) place part (Err x)) same follows)

pub expression_too_high : (tokens : List Token) (place q : ℕ) (part : ExprPart) (e : ReadError) (r : Continuation) (n : Span) (b : SuiteStack) → place < length tokens → goal_of part ≡ goal r → ReadsFrom (view_tokens tokens) place r n b → FollowsMachine (bare (view_tokens tokens)) place part (Err e) → e ≡ read_error_.TooDeep q → HasDeepExpressions (view_tokens tokens) q
expression_too_high tokens place q part e r n b lt is h follows same = high_expression tokens place q (goal_of part) r n b lt is h (subst (λ (x : ReadError). FollowsMachine (bare (view_tokens tokens)) place part (Err x)) same follows)

-- ---- after a pattern

pub at_pattern : (tokens : List Token) (place q : ℕ) (e : Expr) (l : ℕ) (cs : Cases) (n : Span) (b : SuiteStack) → place < length tokens → MatchesFrom (view_tokens tokens) place e l cs n b → pattern_reads.EndsAt (bare (view_tokens tokens)) place q pattern.Unexpected → IsUnexpected (view_tokens tokens) q
at_pattern tokens place q e l cs n b lt h ends = let len = tokens_length tokens in between.pattern_unexpected (view_tokens tokens) place q e l cs n b (omega arith) h ends

pub high_pattern : (tokens : List Token) (place q : ℕ) (e : Expr) (l : ℕ) (cs : Cases) (n : Span) (b : SuiteStack) → place < length tokens → MatchesFrom (view_tokens tokens) place e l cs n b → pattern_reads.EndsAt (bare (view_tokens tokens)) place q pattern.TooDeep → HasDeepExpressions (view_tokens tokens) q
high_pattern tokens place q e l cs n b lt h ends = let len = tokens_length tokens in between.pattern_too_high (view_tokens tokens) place q e l cs n b (omega arith) h ends

pub after_pattern : (tokens : List Token) (place q : ℕ) (e : Expr) (l : ℕ) (cs : Cases) (n : Span) (b : SuiteStack) (p : Pattern) → place < length tokens → MatchesFrom (view_tokens tokens) place e l cs n b → pattern_reads.EndsAt (bare (view_tokens tokens)) place q (pattern.Reads p) → Resumes (view_tokens tokens) place q (λ m k last. resume_pattern e l cs p m b k last) n
after_pattern tokens place q e l cs n b p lt h ends = let len = tokens_length tokens in pattern_read (view_tokens tokens) place q e l cs n b p (omega arith) h ends

pub pattern_turns : (tokens : List Token) (place q : ℕ) (t d : Token) (e : Expr) (l : ℕ) (cs : Cases) (p : Pattern) (n m : Span) (b : SuiteStack) (s : Option code_state.State) → t ≡ get_or tokens q t → Resumes (view_tokens tokens) place q (λ m k last. resume_pattern e l cs p m b k last) n → m ≡ onward n (last_at (get_or tokens (q - 1) d)) → resume_pattern e l cs p m b (kind_at t) (last_at t) ≡ option_map view_state s → Turns (view_tokens tokens) q (λ t o. o ≡ option_map view_state s)
pattern_turns tokens place q t d e l cs p n m b s there h same makes =
    let later = read_later tokens place q (λ m k last. resume_pattern e l cs p m b k last) n h in
    resuming tokens place q t d (λ m k last. resume_pattern e l cs p m b k last) n (option_map view_state s) h later.1 (ap (λ (x : Span). resume_pattern e l cs p x b (kind_at (get_or tokens q t)) (last_at (get_or tokens q t))) (sym same) ∙ subst (λ (u : Token). resume_pattern e l cs p m b (kind_at u) (last_at u) ≡ option_map view_state s) there makes)

-- ---- why no pattern was read

pub pattern_unexpected : (tokens : List Token) (place q : ℕ) (x : ReadError) (e : Expr) (l : ℕ) (cs : Cases) (n : Span) (b : SuiteStack) → place < length tokens → MatchesFrom (view_tokens tokens) place e l cs n b → pattern_reads.FollowsMachine (bare (view_tokens tokens)) place (Err x) → x ≡ read_error_.Unexpected q → IsUnexpected (view_tokens tokens) q
pattern_unexpected tokens place q x e l cs n b lt h follows same = at_pattern tokens place q e l cs n b lt h (subst (λ (y : ReadError). pattern_reads.FollowsMachine (bare (view_tokens tokens)) place (Err y)) same follows)

pub pattern_too_high : (tokens : List Token) (place q : ℕ) (x : ReadError) (e : Expr) (l : ℕ) (cs : Cases) (n : Span) (b : SuiteStack) → place < length tokens → MatchesFrom (view_tokens tokens) place e l cs n b → pattern_reads.FollowsMachine (bare (view_tokens tokens)) place (Err x) → x ≡ read_error_.TooDeep q → HasDeepExpressions (view_tokens tokens) q
pattern_too_high tokens place q x e l cs n b lt h follows same = high_pattern tokens place q e l cs n b lt h (subst (λ (y : ReadError). pattern_reads.FollowsMachine (bare (view_tokens tokens)) place (Err y)) same follows)

-- ---- what a token does

abbrev the_step : Token → State → Bool → Option State
the_step t s header = step s (record { kind = kind_at t; header = header }) (first_at t) (last_at t)

abbrev DoesAs : Token → State → Bool → Turn → Type 0
DoesAs t s header turn = ActsAs (kind_at t) (first_at t) (last_at t) (the_step t s header) turn

pub next_turns : (tokens : List Token) (place : ℕ) (t : Token) (s : State) (header : Bool) (turn : Turn) (n : code_state.State) → place < length tokens → t ≡ get_or tokens place t → header ≡ header_at (bare (view_tokens tokens)) place → StandsAt (view_tokens tokens) place s → DoesAs t s header turn → turn ≡ turn_.Next n → Turns (view_tokens tokens) place (λ t o. o ≡ Some (view_state n))
next_turns tokens place t s header turn n lt there is stands acts same = turning tokens place t s header (Some (view_state n)) lt is stands (subst (λ (u : Token). the_step u s header ≡ Some (view_state n)) there (subst (DoesAs t s header) same acts))

pub stuck_turns : (tokens : List Token) (place : ℕ) (t : Token) (s : State) (header : Bool) (turn : Turn) → place < length tokens → t ≡ get_or tokens place t → header ≡ header_at (bare (view_tokens tokens)) place → StandsAt (view_tokens tokens) place s → DoesAs t s header turn → turn ≡ turn_.Stuck → Turns (view_tokens tokens) place (λ t o. o ≡ None)
stuck_turns tokens place t s header turn lt there is stands acts same = turning tokens place t s header None lt is stands (subst (λ (u : Token). the_step u s header ≡ None) there (subst (DoesAs t s header) same acts))

-- where a header begins, the name `match` stands
pub header_named : (tokens : List Token) (place : ℕ) (t : Token) (header : Bool) → place < length tokens → t ≡ get_or tokens place t → header ≡ header_at (bare (view_tokens tokens)) place → header ≡ true → is_match (kind_at t) ≡ true
header_named tokens place t header lt there is named = subst (λ (u : Token). is_match (kind_at u) ≡ true) (sym there) (header_match tokens place t header lt is named)

pub reads_there : (tokens : List Token) (place : ℕ) (t : Token) (s : State) (header : Bool) (turn : Turn) (r : code_continuation.Continuation) (n : code_span.Span) (b : code_suites.SuiteStack) → place < length tokens → t ≡ get_or tokens place t → header ≡ header_at (bare (view_tokens tokens)) place → StandsAt (view_tokens tokens) place s → DoesAs t s header turn → turn ≡ turn_.Reads r n b → ReadsThere tokens place r n b
reads_there tokens place t s header turn r n b lt there is stands acts same =
    let h = subst (λ (u : Token). DoesAs u s header (turn_.Reads r n b)) there (subst (DoesAs t s header) same acts) in
    reading_turn tokens place t s header (view_continuation r) (view_span n) (view_suites b) lt is stands h.0 h.1

pub matches_there : (tokens : List Token) (place : ℕ) (t : Token) (s : State) (header : Bool) (turn : Turn) (c : Box PartialMatch Global) (n : code_span.Span) (b : code_suites.SuiteStack) → place < length tokens → t ≡ get_or tokens place t → header ≡ header_at (bare (view_tokens tokens)) place → StandsAt (view_tokens tokens) place s → DoesAs t s header turn → turn ≡ turn_.Matches c n b → MatchesThere tokens place c n b
matches_there tokens place t s header turn c n b lt there is stands acts same =
    let h = subst (λ (u : Token). DoesAs u s header (turn_.Matches c n b)) there (subst (DoesAs t s header) same acts) in
    matching_turn tokens place t s header (plain_expr c.value.subject) c.value.header_last (plain_cases c.value.cases.items) (view_span n) (view_suites b) lt is stands h

-- ---- the end

-- where the end was read, the machine stands after it
over_is : (s : State) (ss : Stmts) → done s ≡ Some ss → s ≡ Over ss
over_is (Line b) ss h = absurd cc
over_is (at p n b) ss h = absurd cc
over_is (After k first last b) ss h = absurd cc
over_is (Choosing e last cs first b) ss h = absurd cc
over_is (Over body) ss h = let same : body ≡ ss = cc in ap Over same

pub parsed : (tokens : List Token) (place : ℕ) (s : State) (body : Vec Stmt Global) → StandsAt (view_tokens tokens) place s → length tokens ≤ place → IsDone s (Some body) → IsParsed (view_tokens tokens) (Ok (record { body = body }))
parsed tokens place s body h le is = let e = tokens_length tokens in whole (view_tokens tokens) place s (plain_stmts body.items) h (omega arith) (over_is s (plain_stmts body.items) is)

pub unparsed : (tokens : List Token) (place : ℕ) (s : State) → StandsAt (view_tokens tokens) place s → length tokens ≤ place → IsDone s None → IsUnexpected (view_tokens tokens) place
unparsed tokens place s h le is = let e = tokens_length tokens in too_short (view_tokens tokens) place s h (omega arith) is

-- ---- the rules of the whole

pub ruleset module_rules = (first_place, parsed, unparsed, stands_inside)
