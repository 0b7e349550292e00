-- An expression is read in one go from where the machine stands.
use Rattle.std.proofs.Common.{◌≡◌, ℕ, zero, suc, ◌+◌, ◌≤◌, ◌<◌, nat_le, Bool, true, false, cond, List, [], ◌∷◌, length, drop, Option, Some, None, refl, sym, ap, subst, ◌∙◌, arith}
use Rattle.std.proofs.lemmas.Bool.{leb-true, leb-false}
use Rattle.std.proofs.lemmas.List.{length-drop}
use Rattle.py_token.specs.Plain.{PToken, first_of, last_of}
use Rattle.py_syntax.specs.Tree.{Expr}
use Rattle.py_syntax.specs.Kinds.{Kind, bare_token, bare}
use Rattle.py_syntax.specs.Headers.{ends_line}
use Rattle.py_syntax.specs.Normal.{height}
use Rattle.py_syntax.specs.Spelling.{HEIGHT, NESTING}
use Rattle.py_grammar.specs.Machine as expression
use Rattle.py_grammar.specs.Machine.{start, class}
use Rattle.py_grammar.specs.Least.{least}
use Rattle.py_grammar.specs.Reading.{Ending, Unexpected, TooDeep, Reads, within}
use Rattle.py_grammar.proofs.Least.Grows.{height_some}
use Rattle.py_statements.specs.Open.{SuiteStack}
use Rattle.py_statements.specs.Machine.{Continuation, Reading, Span, State, at, goal, reads, onward, act, resume}
use Rattle.py_parse.specs.Places.{last_before}
use Rattle.py_statements.specs.ViewMarks.{header_at}
use Rattle.py_parse.specs.Refusal.{IsUnexpected, HasDeepExpressions}
use Rattle.py_parse.proofs.Complete.TokenLines.{token_last, token_source}
use Rattle.py_parse.proofs.Exact.WholeLists.{Lexeme, next}
use Rattle.py_parse.proofs.Exact.WholeTokens.{with_lines}
use Rattle.py_parse.proofs.Exact.WholeStands.{Stands, count, unexpected}
use Rattle.py_statements.specs.Levels.{is_start}
use Rattle.py_parse.proofs.Least.ExprLeavesWithin.{LeavesWithin, step_within, start_within}
use Rattle.py_parse.proofs.Exact.LineEndsExpr.{NoNext, step_no_next}
use Rattle.py_parse.proofs.Least.Weights.{level, begun_level}
use Rattle.py_parse.proofs.Exact.Marks.{lexeme, there, no_header, plainly, drop_more}
use Rattle.py_parse.proofs.Exact.Moves.{moves, too_high}

-- The machine stands after an expression that leaves at the token there.
pub record ReadTo (ts : List PToken) (place : ℕ) (r : Continuation) (b : SuiteStack) (begun first : ℕ) (e : Expr) : Type 0 where
  pub inner : expression.State
  pub last : ℕ
  pub stands : Stands ts place (at (Reading r inner) (record { begun = begun; first = first; last = last }) b)
  pub last_is : last ≡ last_before (token_source ts) place
  pub plain : header_at (bare ts) place ≡ false
  pub leaves : (t : PToken) (more : List PToken) → drop place ts ≡ t ∷ more → expression.step inner (class (bare_token t)) ≡ expression.Left e

-- what the end of a reading says
abbrev pub Outcome : List PToken → Continuation → SuiteStack → ℕ → ℕ → ℕ → Ending → Type 0
Outcome ts r b begun first after (Unexpected rest) = (place : ℕ) × (place ≤ length ts) × (length rest + place ≡ length ts) × IsUnexpected ts place
Outcome ts r b begun first after (TooDeep rest) = (place : ℕ) × (place ≤ length ts) × (length rest + place ≡ length ts) × HasDeepExpressions ts place
Outcome ts r b begun first after (Reads e rest) = (place : ℕ) × (after ≤ place) × (place < length ts) × (length rest + place ≡ length ts) × ReadTo ts place r b begun first e

pub left_length : (ts us : List PToken) (place : ℕ) → place ≤ length ts → drop place ts ≡ us → length (bare us) + place ≡ length ts
left_length ts us place inside h = let one = length-drop place ts in let two = ap length h in let three = bare_length us in omega arith
  where
    bare_length : (us : List PToken) → length (bare us) ≡ length us
    bare_length [] = refl
    bare_length (t ∷ us) = ap suc (bare_length us)

pub no_lexeme : (ts : List PToken) (place : ℕ) (t : Lexeme) (rest : List Lexeme) → place ≤ length ts → drop place ts ≡ [] → drop place (with_lines ts) ≡ t ∷ rest → ⊥
no_lexeme ts place t rest inside h i = let one = length-drop place ts in let two = ap length h in let three = count ts in let four = length-drop place (with_lines ts) in let five = ap length i in omega arith

pub inside_there : (ts : List PToken) (place : ℕ) (t : PToken) (more : List PToken) → drop place ts ≡ t ∷ more → place < length ts
inside_there ts place t more h = let one = length-drop place ts in let two = ap length h in omega arith

pub last_there : (ts : List PToken) (place : ℕ) (t : PToken) (more : List PToken) → drop place ts ≡ t ∷ more → last_of t ≡ last_before (token_source ts) (place + 1)
last_there ts place t more h = let one : place + 1 ≡ suc place = omega arith in go ts place h ∙ sym (ap (last_before (token_source ts)) one)
  where
    go : (ts : List PToken) (place : ℕ) → drop place ts ≡ t ∷ more → last_of t ≡ token_last ts place
    go [] zero h = absurd cc
    go [] (suc p) h = absurd cc
    go (u ∷ ts) zero h = let same : u ≡ t = cc in sym (ap last_of same)
    go (u ∷ ts) (suc p) h = go ts p h

-- a token of an expression ends no line
on_line : (s n : expression.State) (k : Kind) → expression.step s (class k) ≡ expression.Next n → ends_line k ≡ false
on_line s n k h = go (ends_line k) refl
  where
    go : (b : Bool) → ends_line k ≡ b → b ≡ false
    go false is = refl
    go true is = let q : NoNext (expression.Next n) = subst NoNext h (step_no_next s k is) in absurd q

-- only one place has so many tokens after it
pub stuck_here : (ts us : List PToken) (place : ℕ) (s : State) (t : PToken) → Stands ts place s → drop place ts ≡ t ∷ us → next s (lexeme ts place t) ≡ None → IsUnexpected ts place
stuck_here ts us place s t h is stuck =
    let it = there ts place t us is in
    let lt = inside_there ts place t us is in
    unexpected ts place s h (λ all. absurd (omega arith)) (λ u rest i. (let both = sym it.1 ∙ i in let same : lexeme ts place t ≡ u = cc in ap (next s) (sym same) ∙ stuck))

-- what a token inside an expression makes, and how the reading goes on from there
abbrev pub taken : Continuation → Span → SuiteStack → PToken → expression.Out → Option State
taken r n b t w = elim w as (λ (w : expression.Out). Option State) [ expression.Next s' ↦ Some (at (Reading r s') (onward n (last_of t)) b) | expression.Stuck ↦ None | expression.Left e ↦ resume r e n b (bare_token t) (last_of t) ]

abbrev pub onto : PToken → List PToken → expression.Out → Ending
onto t more w = elim w as (λ (o : expression.Out). Ending) [ expression.Next n' ↦ cond (nat_le (least n') HEIGHT) (within HEIGHT n' (bare more)) (TooDeep (bare (t ∷ more))) | expression.Stuck ↦ Unexpected (bare (t ∷ more)) | expression.Left e ↦ Reads e (bare (t ∷ more)) ]

-- From a place inside an expression on.
walk : (ts us : List PToken) (after place : ℕ) (r : Continuation) (s : expression.State) (n : Span) (b : SuiteStack) → drop place ts ≡ us → Stands ts place (at (Reading r s) n b) → header_at (bare ts) place ≡ false → n.last ≡ last_before (token_source ts) place → is_start s ≡ false → after ≤ place → Outcome ts r b n.begun n.first after (within HEIGHT s (bare us))
walk ts [] after place r s n b is stands plain last begun le = (place, stands.inside, left_length ts [] place stands.inside is, unexpected ts place (at (Reading r s) n b) stands (λ all. refl) (λ t rest i. absurd (no_lexeme ts place t rest stands.inside is i)))
walk ts (t ∷ more) after place r s n b is stands plain last begun le = go (λ s' stands' plain' last' started. walk ts more after (place + 1) r s' (onward n (last_of t)) b (drop_more place ts t more is) stands' plain' last' started (omega arith)) (expression.step s (class (bare_token t))) refl
  where
    it : (rest : List Lexeme) × (drop place (with_lines ts) ≡ lexeme ts place t ∷ rest)
    it = there ts place t more is

    turn : next (at (Reading r s) n b) (lexeme ts place t) ≡ act (Reading r s) n b (bare_token t) (first_of t) (last_of t)
    turn = plainly ts place t (at (Reading r s) n b) plain

    go : ((s' : expression.State) → Stands ts (place + 1) (at (Reading r s') (onward n (last_of t)) b) → header_at (bare ts) (place + 1) ≡ false → last_of t ≡ last_before (token_source ts) (place + 1) → is_start s' ≡ false → Outcome ts r b n.begun n.first after (within HEIGHT s' (bare more))) → (w : expression.Out) → expression.step s (class (bare_token t)) ≡ w → Outcome ts r b n.begun n.first after (onto t more w)
    go rec (expression.Next s') h = choose (nat_le (least s') HEIGHT) refl
      where
        steps : next (at (Reading r s) n b) (lexeme ts place t) ≡ Some (at (Reading r s') (onward n (last_of t)) b)
        steps = turn ∙ ap (taken r n b t) h

        started : is_start s' ≡ false
        started = subst (LeavesWithin (least s)) h (step_within s (class (bare_token t)))

        flat : level (at (Reading r s') (onward n (last_of t)) b) ≤ NESTING
        flat = let zero_level = begun_level r s' (onward n (last_of t)) b started in omega arith

        choose : (c : Bool) → nat_le (least s') HEIGHT ≡ c → Outcome ts r b n.begun n.first after (cond c (within HEIGHT s' (bare more)) (TooDeep (bare (t ∷ more))))
        choose true low = rec s' (moves ts place (at (Reading r s) n b) (at (Reading r s') (onward n (last_of t)) b) (lexeme ts place t) it.0 stands it.1 steps (leb-true (least s') HEIGHT low) flat) (no_header ts place t more is (on_line s s' (bare_token t) h)) (last_there ts place t more is) started
        choose false high = (place, stands.inside, left_length ts (t ∷ more) place stands.inside is, too_high ts place (at (Reading r s) n b) (at (Reading r s') (onward n (last_of t)) b) (lexeme ts place t) it.0 stands it.1 steps flat (leb-false (least s') HEIGHT high))
    go rec expression.Stuck h = (place, stands.inside, left_length ts (t ∷ more) place stands.inside is, stuck_here ts more place (at (Reading r s) n b) t stands is (turn ∙ ap (taken r n b t) h))
    go rec (expression.Left e) h = (
      place,
      le,
      inside_there ts place t more is,
      left_length ts (t ∷ more) place stands.inside is,
      record { inner = s; last = n.last; stands = stands; last_is = last; plain = plain; leaves = λ u rest i. (let both = sym is ∙ i in let same : t ≡ u = cc in ap (λ (x : PToken). expression.step s (class (bare_token x))) (sym same) ∙ h) },
    )

-- From where an expression begins with the token at the place, whatever state stands there.
pub begins : (ts : List PToken) (place : ℕ) (s : State) (t : PToken) (more : List PToken) (r : Continuation) (n : Span) (b : SuiteStack) → Stands ts place s → drop place ts ≡ t ∷ more → next s (lexeme ts place t) ≡ reads r n b (expression.step (start (goal r)) (class (bare_token t))) → n.last ≡ last_of t → Outcome ts r b n.begun n.first (place + 1) (within HEIGHT (start (goal r)) (bare (t ∷ more)))
begins ts place s t more r n b stands is turn last = go (expression.step (start (goal r)) (class (bare_token t))) refl
  where
    it : (rest : List Lexeme) × (drop place (with_lines ts) ≡ lexeme ts place t ∷ rest)
    it = there ts place t more is

    go : (w : expression.Out) → expression.step (start (goal r)) (class (bare_token t)) ≡ w → Outcome ts r b n.begun n.first (place + 1) (onto t more w)
    go (expression.Next s') h = choose (nat_le (least s') HEIGHT) refl
      where
        steps : next s (lexeme ts place t) ≡ Some (at (Reading r s') n b)
        steps = turn ∙ ap (reads r n b) h

        started : is_start s' ≡ false
        started = subst (LeavesWithin (least (start (goal r)))) h (step_within (start (goal r)) (class (bare_token t)))

        flat : level (at (Reading r s') n b) ≤ NESTING
        flat = let zero_level = begun_level r s' n b started in omega arith

        choose : (c : Bool) → nat_le (least s') HEIGHT ≡ c → Outcome ts r b n.begun n.first (place + 1) (cond c (within HEIGHT s' (bare more)) (TooDeep (bare (t ∷ more))))
        choose true low = walk ts more (place + 1) (place + 1) r s' n b (drop_more place ts t more is) (moves ts place s (at (Reading r s') n b) (lexeme ts place t) it.0 stands it.1 steps (leb-true (least s') HEIGHT low) flat) (no_header ts place t more is (on_line (start (goal r)) s' (bare_token t) h)) (last ∙ last_there ts place t more is) started (omega arith)
        choose false high = (place, stands.inside, left_length ts (t ∷ more) place stands.inside is, too_high ts place s (at (Reading r s') n b) (lexeme ts place t) it.0 stands it.1 steps flat (leb-false (least s') HEIGHT high))
    go expression.Stuck h = (place, stands.inside, left_length ts (t ∷ more) place stands.inside is, stuck_here ts more place s t stands is (turn ∙ ap (reads r n b) h))
    go (expression.Left e) h = let low : height e ≤ 0 = subst (LeavesWithin 0) h (start_within r (class (bare_token t))) in let some = height_some e in absurd (omega arith)
