-- The pattern of a `case` is read in one go from where the machine stands.
use Rattle.std.proofs.Common.{◌≡◌, ℕ, ◌+◌, ◌≤◌, ◌<◌, nat_le, Bool, true, false, cond, List, [], ◌∷◌, length, drop, Option, Some, None, refl, sym, ap, subst, ◌∙◌, arith}
use Rattle.std.proofs.lemmas.Bool.{leb-true, leb-false}
use Rattle.py_token.specs.Plain.{PToken, first_of, last_of}
use Rattle.py_syntax.specs.Tree.{Expr, Cases, Pattern}
use Rattle.py_syntax.specs.Kinds.{Kind, bare_token, bare}
use Rattle.py_syntax.specs.Headers.{ends_line}
use Rattle.py_syntax.specs.Normal.{pattern_height}
use Rattle.py_syntax.specs.Spelling.{HEIGHT}
use Rattle.py_parse_pattern.specs.Machine as pattern
use Rattle.py_parse_pattern.specs.Machine.{least, Ending, Unexpected, TooDeep, Reads, within}
use Rattle.py_parse_pattern.proofs.Least.{at_least_one}
use Rattle.py_statements.specs.Open.{SuiteStack}
use Rattle.py_statements.specs.Machine.{Matching, Span, State, at, onward, act, resume_pattern}
use Rattle.py_parse.specs.Places.{last_before}
use Rattle.py_statements.specs.ViewMarks.{header_at}
use Rattle.py_parse.specs.Refusal.{IsUnexpected, HasDeepExpressions}
use Rattle.py_parse.proofs.Complete.TokenLines.{token_source}
use Rattle.py_parse.proofs.Exact.WholeLists.{Lexeme, next}
use Rattle.py_parse.proofs.Exact.WholeTokens.{with_lines}
use Rattle.py_parse.proofs.Exact.WholeStands.{Stands, unexpected}
use Rattle.py_parse.proofs.Least.PatternLeavesWithin.{LeavesWithin, NoNext, start_within, step_no_next}
use Rattle.py_parse.proofs.Exact.Marks.{lexeme, there, no_header, plainly, drop_more}
use Rattle.py_parse.proofs.Exact.Moves.{moves, too_high}
use Rattle.py_parse.proofs.Exact.Walk.{inside_there, left_length, no_lexeme, last_there, stuck_here}

-- The machine stands after a pattern that leaves at the token there.
pub record MatchedTo (ts : List PToken) (place : ℕ) (e : Expr) (header_last : ℕ) (cs : Cases) (b : SuiteStack) (begun first : ℕ) (p : Pattern) : Type 0 where
  pub inner : pattern.State
  pub last : ℕ
  pub stands : Stands ts place (at (Matching e header_last cs inner) (record { begun = begun; first = first; last = last }) b)
  pub last_is : last ≡ last_before (token_source ts) place
  pub plain : header_at (bare ts) place ≡ false
  pub leaves : (t : PToken) (more : List PToken) → drop place ts ≡ t ∷ more → pattern.step inner (bare_token t) ≡ pattern.Left p

-- what the end of a reading says
abbrev pub Outcome : List PToken → Expr → ℕ → Cases → SuiteStack → ℕ → ℕ → ℕ → Ending → Type 0
Outcome ts e l cs b begun first after (Unexpected rest) = (place : ℕ) × (place ≤ length ts) × (length rest + place ≡ length ts) × IsUnexpected ts place
Outcome ts e l cs b begun first after (TooDeep rest) = (place : ℕ) × (place ≤ length ts) × (length rest + place ≡ length ts) × HasDeepExpressions ts place
Outcome ts e l cs b begun first after (Reads p rest) = (place : ℕ) × (after ≤ place) × (place < length ts) × (length rest + place ≡ length ts) × MatchedTo ts place e l cs b begun first p

-- a token of a pattern ends no line
on_line : (s n : pattern.State) (k : Kind) → pattern.step s k ≡ pattern.Next n → ends_line k ≡ false
on_line s n k h = go (ends_line k) refl
  where
    go : (b : Bool) → ends_line k ≡ b → b ≡ false
    go false is = refl
    go true is = let q : NoNext (pattern.Next n) = subst NoNext h (step_no_next s k is) in absurd q

-- what a token inside a pattern makes, and how the reading goes on from there
abbrev pub taken : Expr → ℕ → Cases → Span → SuiteStack → PToken → pattern.Out → Option State
taken e l cs n b t w = elim w as (λ (w : pattern.Out). Option State) [ pattern.Next s' ↦ Some (at (Matching e l cs s') (onward n (last_of t)) b) | pattern.Stuck ↦ None | pattern.Left p ↦ resume_pattern e l cs p n b (bare_token t) (last_of t) ]

abbrev pub onto : PToken → List PToken → pattern.Out → Ending
onto t more w = elim w as (λ (o : pattern.Out). Ending) [ pattern.Next n' ↦ cond (nat_le (least n') HEIGHT) (within HEIGHT n' (bare more)) (TooDeep (bare (t ∷ more))) | pattern.Stuck ↦ Unexpected (bare (t ∷ more)) | pattern.Left p ↦ Reads p (bare (t ∷ more)) ]

-- From a place inside a pattern on.
walk : (ts us : List PToken) (after place : ℕ) (e : Expr) (l : ℕ) (cs : Cases) (s : pattern.State) (n : Span) (b : SuiteStack) → drop place ts ≡ us → Stands ts place (at (Matching e l cs s) n b) → header_at (bare ts) place ≡ false → n.last ≡ last_before (token_source ts) place → after ≤ place → Outcome ts e l cs b n.begun n.first after (within HEIGHT s (bare us))
walk ts [] after place e l cs s n b is stands plain last le = (place, stands.inside, left_length ts [] place stands.inside is, unexpected ts place (at (Matching e l cs s) n b) stands (λ all. refl) (λ t rest i. absurd (no_lexeme ts place t rest stands.inside is i)))
walk ts (t ∷ more) after place e l cs s n b is stands plain last le = go (λ s' stands' plain' last'. walk ts more after (place + 1) e l cs s' (onward n (last_of t)) b (drop_more place ts t more is) stands' plain' last' (omega arith)) (pattern.step s (bare_token t)) refl
  where
    it : (rest : List Lexeme) × (drop place (with_lines ts) ≡ lexeme ts place t ∷ rest)
    it = there ts place t more is

    turn : next (at (Matching e l cs s) n b) (lexeme ts place t) ≡ act (Matching e l cs s) n b (bare_token t) (first_of t) (last_of t)
    turn = plainly ts place t (at (Matching e l cs s) n b) plain

    go : ((s' : pattern.State) → Stands ts (place + 1) (at (Matching e l cs s') (onward n (last_of t)) b) → header_at (bare ts) (place + 1) ≡ false → last_of t ≡ last_before (token_source ts) (place + 1) → Outcome ts e l cs b n.begun n.first after (within HEIGHT s' (bare more))) → (w : pattern.Out) → pattern.step s (bare_token t) ≡ w → Outcome ts e l cs b n.begun n.first after (onto t more w)
    go rec (pattern.Next s') h = choose (nat_le (least s') HEIGHT) refl
      where
        steps : next (at (Matching e l cs s) n b) (lexeme ts place t) ≡ Some (at (Matching e l cs s') (onward n (last_of t)) b)
        steps = turn ∙ ap (taken e l cs n b t) h

        choose : (c : Bool) → nat_le (least s') HEIGHT ≡ c → Outcome ts e l cs b n.begun n.first after (cond c (within HEIGHT s' (bare more)) (TooDeep (bare (t ∷ more))))
        choose true low = rec s' (moves ts place (at (Matching e l cs s) n b) (at (Matching e l cs s') (onward n (last_of t)) b) (lexeme ts place t) it.0 stands it.1 steps (leb-true (least s') HEIGHT low) (omega arith)) (no_header ts place t more is (on_line s s' (bare_token t) h)) (last_there ts place t more is)
        choose false high = (place, stands.inside, left_length ts (t ∷ more) place stands.inside is, too_high ts place (at (Matching e l cs s) n b) (at (Matching e l cs s') (onward n (last_of t)) b) (lexeme ts place t) it.0 stands it.1 steps (omega arith) (leb-false (least s') HEIGHT high))
    go rec pattern.Stuck h = (place, stands.inside, left_length ts (t ∷ more) place stands.inside is, stuck_here ts more place (at (Matching e l cs s) n b) t stands is (turn ∙ ap (taken e l cs n b t) h))
    go rec (pattern.Left p) h = (
      place,
      le,
      inside_there ts place t more is,
      left_length ts (t ∷ more) place stands.inside is,
      record { inner = s; last = n.last; stands = stands; last_is = last; plain = plain; leaves = λ u rest i. (let both = sym is ∙ i in let same : t ≡ u = cc in ap (λ (x : PToken). pattern.step s (bare_token x)) (sym same) ∙ h) },
    )

-- From where a pattern begins with the token at the place.
pub begins : (ts : List PToken) (place : ℕ) (s : State) (t : PToken) (more : List PToken) (e : Expr) (l : ℕ) (cs : Cases) (n : Span) (b : SuiteStack) → Stands ts place s → drop place ts ≡ t ∷ more → next s (lexeme ts place t) ≡ act (Matching e l cs pattern.start) n b (bare_token t) (first_of t) (last_of t) → Outcome ts e l cs b n.begun n.first (place + 1) (within HEIGHT pattern.start (bare (t ∷ more)))
begins ts place s t more e l cs n b stands is turn = go (pattern.step pattern.start (bare_token t)) refl
  where
    it : (rest : List Lexeme) × (drop place (with_lines ts) ≡ lexeme ts place t ∷ rest)
    it = there ts place t more is

    go : (w : pattern.Out) → pattern.step pattern.start (bare_token t) ≡ w → Outcome ts e l cs b n.begun n.first (place + 1) (onto t more w)
    go (pattern.Next s') h = choose (nat_le (least s') HEIGHT) refl
      where
        steps : next s (lexeme ts place t) ≡ Some (at (Matching e l cs s') (onward n (last_of t)) b)
        steps = turn ∙ ap (taken e l cs n b t) h

        choose : (c : Bool) → nat_le (least s') HEIGHT ≡ c → Outcome ts e l cs b n.begun n.first (place + 1) (cond c (within HEIGHT s' (bare more)) (TooDeep (bare (t ∷ more))))
        choose true low = walk ts more (place + 1) (place + 1) e l cs s' (onward n (last_of t)) b (drop_more place ts t more is) (moves ts place s (at (Matching e l cs s') (onward n (last_of t)) b) (lexeme ts place t) it.0 stands it.1 steps (leb-true (least s') HEIGHT low) (omega arith)) (no_header ts place t more is (on_line pattern.start s' (bare_token t) h)) (last_there ts place t more is) (omega arith)
        choose false high = (place, stands.inside, left_length ts (t ∷ more) place stands.inside is, too_high ts place s (at (Matching e l cs s') (onward n (last_of t)) b) (lexeme ts place t) it.0 stands it.1 steps (omega arith) (leb-false (least s') HEIGHT high))
    go pattern.Stuck h = (place, stands.inside, left_length ts (t ∷ more) place stands.inside is, stuck_here ts more place s t stands is (turn ∙ ap (taken e l cs n b t) h))
    go (pattern.Left p) h = let low : pattern_height p ≤ 0 = subst (LeavesWithin 0) h (start_within (bare_token t)) in let some = at_least_one p in absurd (omega arith)
