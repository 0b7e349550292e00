-- The reading of a list of tokens by places.
--     state_after, StandsAt                where the machine stands
--     step_at, Turns                       what a token makes of its state
--     ReadsFrom, MatchesFrom               an expression or a pattern begins
--     last_there, line_before, Resumes     how the statement goes on after it
--     Takes .. ResumesBy                   the same of what the code holds
--     Advances                             a later place where the machine stands
use Rattle.std.specs.Prelude.{◌≡◌, ℕ, zero, suc, ◌≤◌, ◌<◌, List, [], ◌∷◌, length, drop}
use Rattle.std.specs.Prelude.{Option, Some, None, option_map, Result, Ok, Err, Box}
use Rattle.std.specs.Global.{Global}
use Rattle.py_token.specs.declared.token.Token.{Token}
use Rattle.py_token.specs.View.{view_tokens}
use Rattle.py_token.specs.Plain.{PToken, first_of, last_of}
use Rattle.py_syntax.specs.Tree.{Expr, Cases}
use Rattle.py_syntax.specs.View.{plain_expr, plain_cases}
use Rattle.py_syntax.specs.Kinds.{Kind, bare_token, bare}
use Rattle.py_syntax.specs.Headers.{Marked, marked}
use Rattle.py_syntax.specs.Spelling.{HEIGHT, NESTING}
use Rattle.py_parse.specs.declared.error.SyntaxError.{SyntaxError}
use Rattle.py_parse.specs.declared.progress.Progress.{Progress}
use Rattle.py_statements.specs.declared.purposes.Continuation as code_continuation
use Rattle.py_statements.specs.declared.places.State as code_state
use Rattle.py_statements.specs.declared.suite_of.PartialMatch.{PartialMatch}
use Rattle.py_statements.specs.declared.suite_stack.Span as code_span
use Rattle.py_statements.specs.declared.suite_stack.SuiteStack as code_suites
use Rattle.py_statements.specs.Open.{SuiteStack}
use Rattle.py_statements.specs.Machine.{Continuation, Span, State, begun, onward, begin_expr}
use Rattle.py_statements.specs.Machine.{begin_case, act, step}
use Rattle.py_parse.specs.Least.{least_height, least_nesting}
use Rattle.py_parse.specs.Refusal.{IsRefused}
use Rattle.py_statements.specs.ViewMarks.{header_at}
use Rattle.py_statements.specs.ViewStates.{view_suites, view_span, view_continuation, view_state}
use Rattle.py_statements.specs.ViewStates.{Continuing}

-- the machine after so many marked tokens
abbrev pub state_after : State → ℕ → List Marked → List PToken → Option State
state_after s zero ms ts = Some s
state_after s (suc n) [] ts = Some s
state_after s (suc n) (m ∷ ms) [] = Some s
state_after s (suc n) (m ∷ ms) (t ∷ ts) =
    elim (step s m (first_of t) (last_of t)) as (λ (o : Option State). Option State) [
      | None ↦ None
      | Some s' ↦ state_after s' n ms ts
    ]

-- The tokens in front of the place lead to that state, whose least tree is within the limits.
pub record StandsAt (ts : List PToken) (place : ℕ) (s : State) : Type 0 where
  pub inside : place ≤ length ts
  pub passes : state_after begun place (marked (bare ts)) ts ≡ Some s
  pub low : least_height s ≤ HEIGHT
  pub shallow : least_nesting s ≤ NESTING

-- the token at a place, and whether the header of a `match` begins there
abbrev pub marked_at : List PToken → ℕ → PToken → Marked
marked_at ts place t = record { kind = bare_token t; header = header_at (bare ts) place }

-- a step with that token
abbrev pub step_at : List PToken → ℕ → State → PToken → Option State
step_at ts place s t = step s (marked_at ts place t) (first_of t) (last_of t)

-- what a token makes of a state
abbrev pub Making : Type 1
Making = PToken → Option State → Type 0

-- The machine stands at the place, and the token there makes this of its state.
pub record Turns (ts : List PToken) (place : ℕ) (makes : Making) : Type 0 where
  pub state : State
  pub stands : StandsAt ts place state
  pub turn : (t : PToken) (more : List PToken) → drop place ts ≡ t ∷ more
      → makes t (step_at ts place state t)

-- an expression begins with the token at the place
abbrev pub ReadsFrom : List PToken → ℕ → Continuation → Span → SuiteStack → Type 0
ReadsFrom ts place r n b =
    Turns ts place (λ t o. (o ≡ begin_expr r n b (bare_token t)) × (n.last ≡ last_of t))

-- the pattern of a `case` does
abbrev pub MatchesFrom : List PToken → ℕ → Expr → ℕ → Cases → Span → SuiteStack → Type 0
MatchesFrom ts place e l cs n b =
    Turns ts place (λ t o. o ≡ act (begin_case e l cs) n b (bare_token t) (first_of t) (last_of t))

-- the last line of the token at a place
abbrev pub last_there : List PToken → ℕ → ℕ
last_there [] place = 0
last_there (t ∷ ts) zero = last_of t
last_there (t ∷ ts) (suc place) = last_there ts place

-- the last line of the token before a place
abbrev pub line_before : List PToken → ℕ → ℕ
line_before ts zero = 0
line_before ts (suc place) = last_there ts place

-- how a statement goes on after what was read on these lines, at a token with this last line
abbrev pub GoingOn : Type 0
GoingOn = Span → Kind → ℕ → Option State

-- After an expression or a pattern that begins at a place and ends in front of a later one, the
-- token there goes on so.
pub record Resumes (ts : List PToken) (place next : ℕ) (o : GoingOn) (n : Span) : Type 0 where
  pub later : place < next
  pub inside : next < length ts
  pub turns : Turns ts next
      (λ t w. w ≡ o (onward n (line_before ts next)) (bare_token t) (last_of t))

-- ---- of what the code holds

-- the token at the place makes that state of the machine's, or none
abbrev pub Takes : List Token → ℕ → Option code_state.State → Type 0
Takes ts place s = Turns (view_tokens ts) place (λ t o. o ≡ option_map view_state s)

-- an expression begins at the token of a place
abbrev pub ReadsThere :
    List Token → ℕ → code_continuation.Continuation → code_span.Span → code_suites.SuiteStack
    → Type 0
ReadsThere ts place r n b =
    ReadsFrom (view_tokens ts) place (view_continuation r) (view_span n) (view_suites b)

-- a pattern begins at the token of a place
abbrev pub MatchesThere :
    List Token → ℕ → Box PartialMatch Global → code_span.Span → code_suites.SuiteStack → Type 0
MatchesThere ts place c n b =
    MatchesFrom (view_tokens ts) place (plain_expr c.value.subject) c.value.header_last
    (plain_cases c.value.cases.items) (view_span n) (view_suites b)

-- after an expression or a pattern that begins there, the statement goes on so at the later place
abbrev pub ResumesBy :
    List Token → ℕ → ℕ → Continuing → code_span.Span → code_suites.SuiteStack → Type 0
ResumesBy ts place next way n b =
    Resumes (view_tokens ts) place next (λ m k l. way m (view_suites b) k l) (view_span n)

-- ---- answers

-- A later place where the machine stands, or why there is none.
abbrev pub Advances : List PToken → ℕ → Result Progress SyntaxError → Type 0
Advances ts place (Ok r) = (place < r.next) × StandsAt ts r.next (view_state r.state)
Advances ts place (Err e) = IsRefused ts e
