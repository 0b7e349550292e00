-- What the reading of a list does from a place to a later one.
use Rattle.std.proofs.Common.{◌≡◌, ℕ, zero, suc, ◌+◌, ◌≤◌, ◌<◌, true, false, List, [], ◌∷◌, length, take, drop, Option, Some, None, refl, sym, ap, subst, ◌∙◌, arith}
use Rattle.std.proofs.lemmas.List.{length-drop}
use Rattle.py_token.specs.Plain.{PToken, first_of, last_of}
use Rattle.py_syntax.specs.Tree.{Expr, Cases, Pattern, Stmts}
use Rattle.py_syntax.specs.Kinds.{bare_token, bare}
use Rattle.py_syntax.specs.Headers.{Marked, marked}
use Rattle.py_syntax.specs.Spelling.{HEIGHT, NESTING, Spells}
use Rattle.py_syntax.specs.Statements.{stmts_height, stmts_nesting}
use Rattle.py_grammar.specs.Machine.{start}
use Rattle.py_grammar.specs.Reading as reading_
use Rattle.py_parse_pattern.specs.Machine as pattern
use Rattle.py_parse_pattern.specs.Reads as pattern_reads
use Rattle.py_statements.specs.declared.purposes.Continuation as code_continuation
use Rattle.py_statements.specs.declared.purposes.Continuation.TheVariants as continuation_
use Rattle.py_statements.specs.declared.places.Place.TheVariants as place_
use Rattle.py_statements.specs.declared.places.State as code_state
use Rattle.py_statements.specs.declared.places.State.TheVariants as state_
use Rattle.py_statements.specs.Open.{SuiteStack}
use Rattle.py_statements.specs.Machine.{Continuation, Reading, Matching, Span, State, at, Over, begun, goal, resume, resume_pattern, done, step}
use Rattle.py_parse.specs.Places.{last_before}
use Rattle.py_statements.specs.Levels as levels
use Rattle.py_parse.specs.Refusal.{IsUnexpected, HasDeepSuites, HasDeepExpressions}
use Rattle.py_statements.specs.ViewStates.{view_suites, view_span, view_state, view_continuation}
use Rattle.py_parse.specs.Progress.{state_after, StandsAt, Turns, ReadsFrom, MatchesFrom, last_there, line_before, Resumes}
use Rattle.py_parse.proofs.Complete.TokenLines.{token_last, token_source}
use Rattle.py_parse.proofs.Exact.WholeLists.{reading}
use Rattle.py_parse.proofs.Exact.WholeTokens.{lexemes}
use Rattle.py_parse.proofs.Exact.WholeStands.{Stands, stands_first, unexpected, whole_list}
use Rattle.py_parse.proofs.Least.Weights.{inner, level_is}
use Rattle.py_parse.proofs.Exact.Marks.{lexeme, there, plainly}
use Rattle.py_parse.proofs.Exact.Moves.{moves, too_many}
use Rattle.py_parse.proofs.Exact.Walk as walk
use Rattle.py_parse.proofs.Exact.Walk.{stuck_here, no_lexeme, Outcome}
use Rattle.py_parse.proofs.Exact.PatternWalk as pattern_walk

-- ---- places

after_is : (s : State) (n : ℕ) (ms : List Marked) (ts : List PToken) → state_after s n ms ts ≡ reading s (take n (lexemes ms ts))
after_is s zero ms ts = refl
after_is s (suc n) [] ts = refl
after_is s (suc n) (m ∷ ms) [] = refl
after_is s (suc n) (m ∷ ms) (t ∷ ts) = go (λ s'. after_is s' n ms ts) (step s m (first_of t) (last_of t))
  where
    go : ((s' : State) → state_after s' n ms ts ≡ reading s' (take n (lexemes ms ts))) → (o : Option State) → (elim o as (λ (o : Option State). Option State) [ None ↦ None | Some s' ↦ state_after s' n ms ts ]) ≡ (elim o as (λ (o : Option State). Option State) [ None ↦ None | Some s' ↦ reading s' (take n (lexemes ms ts)) ])
    go rec None = refl
    go rec (Some s') = rec s'

to : (ts : List PToken) (place : ℕ) (s : State) → StandsAt ts place s → Stands ts place s
to ts place s h = record { inside = h.inside; passes = sym (after_is begun place (marked (bare ts)) ts) ∙ h.passes; low = h.low; shallow = h.shallow }

from : (ts : List PToken) (place : ℕ) (s : State) → Stands ts place s → StandsAt ts place s
from ts place s h = record { inside = h.inside; passes = after_is begun place (marked (bare ts)) ts ∙ h.passes; low = h.low; shallow = h.shallow }

pub first_place : (ts : List PToken) → StandsAt ts 0 begun
first_place ts = from ts 0 begun (stands_first ts)

token_there : (ts : List PToken) (place : ℕ) → place < length ts → (t : PToken) × (more : List PToken) × (drop place ts ≡ t ∷ more)
token_there ts place lt = go (drop place ts) refl
  where
    go : (us : List PToken) → drop place ts ≡ us → (t : PToken) × (more : List PToken) × (drop place ts ≡ t ∷ more)
    go [] is = let none = ap length is in absurd (omega (arith, length-drop place ts))
    go (t ∷ more) is = (t, more, is)

-- ---- the token at a place

resumed_low : (r : code_continuation.Continuation) (n : Span) (b : SuiteStack) → inner (at (Reading (view_continuation r) (start (goal (view_continuation r)))) n b) ≤ HEIGHT
resumed_low (continuation_.Value ts) n b = omega arith
resumed_low (continuation_.Augmented p op) n b = omega arith
resumed_low (continuation_.Leaving true) n b = omega arith
resumed_low (continuation_.Leaving false) n b = omega arith
resumed_low continuation_.Asserted n b = omega arith
resumed_low (continuation_.Reason t) n b = omega arith
resumed_low (continuation_.ArmTest arms) n b = omega arith
resumed_low continuation_.WhileTest n b = omega arith
resumed_low continuation_.ForTarget n b = omega arith
resumed_low (continuation_.ForOver t) n b = omega arith
resumed_low (continuation_.ClauseKind t) n b = omega arith
resumed_low continuation_.Subject n b = omega arith
resumed_low (continuation_.Guard c p) n b = omega arith
resumed_low (continuation_.Default s y) n b = omega arith

inner_low : (s : code_state.State) → inner (view_state s) ≤ HEIGHT
inner_low (state_.At (place_.Wanted r) n b) = resumed_low r (view_span n) (view_suites b)
inner_low (state_.At (place_.PatternWanted c) n b) = omega arith
inner_low s = omega arith

pub taken : (ts : List PToken) (place : ℕ) (s : code_state.State) → place < length ts → Turns ts place (λ t o. o ≡ Some (view_state s)) → levels.level (view_state s) ≤ NESTING → StandsAt ts (place + 1) (view_state s)
taken ts place s lt h low =
    let t = token_there ts place lt in
    let it = there ts place t.0 t.1 t.2 in
    let same = level_is (view_state s) in
    from ts (place + 1) (view_state s) (moves ts place h.state (view_state s) (lexeme ts place t.0) it.0 (to ts place h.state h.stands) it.1 (h.turn t.0 t.1 t.2) (inner_low s) (omega arith))

pub too_deep : (ts : List PToken) (place : ℕ) (s : code_state.State) → place < length ts → Turns ts place (λ t o. o ≡ Some (view_state s)) → NESTING < levels.level (view_state s) → HasDeepSuites ts place
too_deep ts place s lt h over =
    let t = token_there ts place lt in
    let it = there ts place t.0 t.1 t.2 in
    let same = level_is (view_state s) in
    too_many ts place h.state (view_state s) (lexeme ts place t.0) it.0 (to ts place h.state h.stands) it.1 (h.turn t.0 t.1 t.2) (omega arith)

pub stuck : (ts : List PToken) (place : ℕ) → place < length ts → Turns ts place (λ t o. o ≡ None) → IsUnexpected ts place
stuck ts place lt h =
    let t = token_there ts place lt in
    stuck_here ts t.1 place h.state t.0 (to ts place h.state h.stands) t.2 (h.turn t.0 t.1 t.2)

-- ---- expressions

bare_length : (us : List PToken) → length (bare us) ≡ length us
bare_length [] = refl
bare_length (t ∷ us) = ap suc (bare_length us)

bare_drop : (p : ℕ) (ts : List PToken) → drop p (bare ts) ≡ bare (drop p ts)
bare_drop zero ts = refl
bare_drop (suc p) [] = refl
bare_drop (suc p) (t ∷ ts) = bare_drop p ts

same_place : (ts : List PToken) (p q : ℕ) → q ≤ length (bare ts) → length (drop q (bare ts)) + p ≡ length ts → p ≡ q
same_place ts p q inside h = let one = length-drop q (bare ts) in let two = bare_length ts in omega arith

-- the end of the reading of an expression from a place
outcome : (ts : List PToken) (place : ℕ) (r : Continuation) (n : Span) (b : SuiteStack) (e : reading_.Ending) → place < length ts → ReadsFrom ts place r n b → reading_.within HEIGHT (start (goal r)) (drop place (bare ts)) ≡ e → Outcome ts r b n.begun n.first (place + 1) e
outcome ts place r n b e lt h ends =
    let t = token_there ts place lt in
    let turn = h.turn t.0 t.1 t.2 in
    let kinds : drop place (bare ts) ≡ bare (t.0 ∷ t.1) = bare_drop place ts ∙ ap bare t.2 in
    subst (Outcome ts r b n.begun n.first (place + 1)) (sym (ap (reading_.within HEIGHT (start (goal r))) kinds) ∙ ends) (walk.begins ts place h.state t.0 t.1 r n b (to ts place h.state h.stands) t.2 turn.0 turn.1)

pub expression_unexpected : (ts : List PToken) (place q : ℕ) (r : Continuation) (n : Span) (b : SuiteStack) → place < length ts → ReadsFrom ts place r n b → reading_.EndsAt HEIGHT (start (goal r)) (bare ts) place q reading_.Unexpected → IsUnexpected ts q
expression_unexpected ts place q r n b lt h ends =
    let o = outcome ts place r n b (reading_.Unexpected (drop q (bare ts))) lt h ends.ends in
    subst (IsUnexpected ts) (same_place ts o.0 q ends.inside o.2) o.3

pub expression_too_high : (ts : List PToken) (place q : ℕ) (r : Continuation) (n : Span) (b : SuiteStack) → place < length ts → ReadsFrom ts place r n b → reading_.EndsAt HEIGHT (start (goal r)) (bare ts) place q reading_.TooDeep → HasDeepExpressions ts q
expression_too_high ts place q r n b lt h ends =
    let o = outcome ts place r n b (reading_.TooDeep (drop q (bare ts))) lt h ends.ends in
    subst (HasDeepExpressions ts) (same_place ts o.0 q ends.inside o.2) o.3

there_is : (ts : List PToken) (p : ℕ) → token_last ts p ≡ last_there ts p
there_is [] p = refl
there_is (t ∷ ts) zero = refl
there_is (t ∷ ts) (suc p) = there_is ts p

before_is : (ts : List PToken) (q : ℕ) → last_before (token_source ts) q ≡ line_before ts q
before_is ts zero = refl
before_is ts (suc p) = there_is ts p

pub expression_read : (ts : List PToken) (place q : ℕ) (r : Continuation) (n : Span) (b : SuiteStack) (e : Expr) → place < length ts → ReadsFrom ts place r n b → reading_.EndsAt HEIGHT (start (goal r)) (bare ts) place q (reading_.Reads e) → Resumes ts place q (λ m k l. resume r e m b k l) n
expression_read ts place q r n b e lt h ends =
    let o = outcome ts place r n b (reading_.Reads e (drop q (bare ts))) lt h ends.ends in
    let same = same_place ts o.0 q ends.inside o.3 in
    let later = o.1 in
    let inside = o.2 in
    subst (λ (p : ℕ). Resumes ts place p (λ m k l. resume r e m b k l) n) same (record { later = omega arith; inside = inside; turns = turned o.0 o.4 })
  where
    turned : (p : ℕ) → walk.ReadTo ts p r b n.begun n.first e → Turns ts p (λ t w. w ≡ resume r e (record { begun = n.begun; first = n.first; last = line_before ts p }) b (bare_token t) (last_of t))
    turned p to_p = record {
      state = at (Reading r to_p.inner) (record { begun = n.begun; first = n.first; last = to_p.last }) b;
      stands = from ts p (at (Reading r to_p.inner) (record { begun = n.begun; first = n.first; last = to_p.last }) b) to_p.stands;
      turn = λ t more is. plainly ts p t (at (Reading r to_p.inner) (record { begun = n.begun; first = n.first; last = to_p.last }) b) to_p.plain ∙ ap (walk.taken r (record { begun = n.begun; first = n.first; last = to_p.last }) b t) (to_p.leaves t more is) ∙ ap (λ (l : ℕ). resume r e (record { begun = n.begun; first = n.first; last = l }) b (bare_token t) (last_of t)) (to_p.last_is ∙ before_is ts p);
    }

-- ---- patterns

pattern_outcome : (ts : List PToken) (place : ℕ) (e : Expr) (l : ℕ) (cs : Cases) (n : Span) (b : SuiteStack) (end : pattern.Ending) → place < length ts → MatchesFrom ts place e l cs n b → pattern.within HEIGHT pattern.start (drop place (bare ts)) ≡ end → pattern_walk.Outcome ts e l cs b n.begun n.first (place + 1) end
pattern_outcome ts place e l cs n b end lt h ends =
    let t = token_there ts place lt in
    let kinds : drop place (bare ts) ≡ bare (t.0 ∷ t.1) = bare_drop place ts ∙ ap bare t.2 in
    subst (pattern_walk.Outcome ts e l cs b n.begun n.first (place + 1)) (sym (ap (pattern.within HEIGHT pattern.start) kinds) ∙ ends) (pattern_walk.begins ts place h.state t.0 t.1 e l cs n b (to ts place h.state h.stands) t.2 (h.turn t.0 t.1 t.2))

pub pattern_unexpected : (ts : List PToken) (place q : ℕ) (e : Expr) (l : ℕ) (cs : Cases) (n : Span) (b : SuiteStack) → place < length ts → MatchesFrom ts place e l cs n b → pattern_reads.EndsAt (bare ts) place q pattern.Unexpected → IsUnexpected ts q
pattern_unexpected ts place q e l cs n b lt h ends =
    let o = pattern_outcome ts place e l cs n b (pattern.Unexpected (drop q (bare ts))) lt h ends.ends in
    subst (IsUnexpected ts) (same_place ts o.0 q ends.inside o.2) o.3

pub pattern_too_high : (ts : List PToken) (place q : ℕ) (e : Expr) (l : ℕ) (cs : Cases) (n : Span) (b : SuiteStack) → place < length ts → MatchesFrom ts place e l cs n b → pattern_reads.EndsAt (bare ts) place q pattern.TooDeep → HasDeepExpressions ts q
pattern_too_high ts place q e l cs n b lt h ends =
    let o = pattern_outcome ts place e l cs n b (pattern.TooDeep (drop q (bare ts))) lt h ends.ends in
    subst (HasDeepExpressions ts) (same_place ts o.0 q ends.inside o.2) o.3

pub pattern_read : (ts : List PToken) (place q : ℕ) (e : Expr) (l : ℕ) (cs : Cases) (n : Span) (b : SuiteStack) (p : Pattern) → place < length ts → MatchesFrom ts place e l cs n b → pattern_reads.EndsAt (bare ts) place q (pattern.Reads p) → Resumes ts place q (λ m k last. resume_pattern e l cs p m b k last) n
pattern_read ts place q e l cs n b p lt h ends =
    let o = pattern_outcome ts place e l cs n b (pattern.Reads p (drop q (bare ts))) lt h ends.ends in
    let same = same_place ts o.0 q ends.inside o.3 in
    let later = o.1 in
    let inside = o.2 in
    subst (λ (x : ℕ). Resumes ts place x (λ m k last. resume_pattern e l cs p m b k last) n) same (record { later = omega arith; inside = inside; turns = turned o.0 o.4 })
  where
    turned : (x : ℕ) → pattern_walk.MatchedTo ts x e l cs b n.begun n.first p → Turns ts x (λ t w. w ≡ resume_pattern e l cs p (record { begun = n.begun; first = n.first; last = line_before ts x }) b (bare_token t) (last_of t))
    turned x to_x = record {
      state = at (Matching e l cs to_x.inner) (record { begun = n.begun; first = n.first; last = to_x.last }) b;
      stands = from ts x (at (Matching e l cs to_x.inner) (record { begun = n.begun; first = n.first; last = to_x.last }) b) to_x.stands;
      turn = λ t more is. plainly ts x t (at (Matching e l cs to_x.inner) (record { begun = n.begun; first = n.first; last = to_x.last }) b) to_x.plain ∙ ap (pattern_walk.taken e l cs (record { begun = n.begun; first = n.first; last = to_x.last }) b t) (to_x.leaves t more is) ∙ ap (λ (m : ℕ). resume_pattern e l cs p (record { begun = n.begun; first = n.first; last = m }) b (bare_token t) (last_of t)) (to_x.last_is ∙ before_is ts x);
    }

-- ---- the end of the list

pub whole : (ts : List PToken) (place : ℕ) (s : State) (m : Stmts) → StandsAt ts place s → length ts ≤ place → s ≡ Over m → Spells m ts × (stmts_height m ≤ HEIGHT) × (stmts_nesting m ≤ NESTING)
whole ts place s m h all is =
    let inside = h.inside in
    let end : place ≡ length ts = omega arith in
    whole_list ts m (to ts (length ts) (Over m) (subst (λ (p : ℕ). StandsAt ts p (Over m)) end (subst (StandsAt ts place) is h)))

pub too_short : (ts : List PToken) (place : ℕ) (s : State) → StandsAt ts place s → length ts ≤ place → done s ≡ None → IsUnexpected ts place
too_short ts place s h all not_done = unexpected ts place s (to ts place s h) (λ end. not_done) (λ t rest i. absurd (no_lexeme ts place t rest h.inside (nothing (drop place ts) refl) i))
  where
    nothing : (us : List PToken) → drop place ts ≡ us → drop place ts ≡ []
    nothing [] is = is
    nothing (t ∷ us) is = let some = ap length is in absurd (omega (arith, length-drop place ts))
