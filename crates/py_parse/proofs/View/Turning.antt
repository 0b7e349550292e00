-- The tokens that the code reads are those that the machine takes.
use Rattle.std.proofs.Common.{◌≡◌, ℕ, zero, suc, ◌-◌, ◌≤◌, ◌<◌, Bool, List, [], ◌∷◌, length, drop, get_or, Option, refl, sym, ap, ◌∙◌, arith}
use Rattle.std.proofs.lemmas.List.{drop-map}
use Rattle.std.proofs.Math.Seq.{drop-cons}
use Rattle.py_token.specs.declared.token.Token.{Token}
use Rattle.py_token.specs.Plain.{PToken, first_of, last_of}
use Rattle.py_token.specs.View.{view_token, view_tokens}
use Rattle.py_token.proofs.Views.{plain-token}
use Rattle.py_syntax.specs.Tree.{Expr, Cases}
use Rattle.py_syntax.specs.Kinds.{Kind, bare_token, bare}
use Rattle.py_grammar.specs.Machine as expression
use Rattle.py_grammar.specs.Machine.{start, class}
use Rattle.py_parse_pattern.specs.Machine as pattern
use Rattle.py_statements.specs.Open.{SuiteStack}
use Rattle.py_statements.specs.Machine.{Continuation, Matching, Span, State, goal, reads, act, step}
use Rattle.py_statements.specs.ViewMarks.{header_at}
use Rattle.py_statements.specs.ViewStates.{kind_at, first_at, last_at}
use Rattle.py_parse.specs.Progress.{StandsAt, step_at, Turns, ReadsFrom, MatchesFrom, Resumes, last_there, line_before}
use Rattle.py_parse.specs.Refusal.{line_of}

tokens_there : (tokens : List Token) (place : ℕ) (d : Token) → place < length tokens → drop place (view_tokens tokens) ≡ view_token (get_or tokens place d) ∷ view_tokens (drop (suc place) tokens)
tokens_there tokens place d lt = drop-map view_token place tokens ∙ ap view_tokens (drop-cons tokens place d lt)

token_is : (tokens : List Token) (place : ℕ) (d : Token) (t : PToken) (more : List PToken) → place < length tokens → drop place (view_tokens tokens) ≡ t ∷ more → t ≡ view_token (get_or tokens place d)
token_is tokens place d t more lt is = let both = sym is ∙ tokens_there tokens place d lt in cc

kind_is : (t : Token) → bare_token (view_token t) ≡ kind_at t
kind_is t = ap bare_token (plain-token t)

first_is : (t : Token) → first_of (view_token t) ≡ first_at t
first_is t = ap first_of (plain-token t)

last_is : (t : Token) → last_of (view_token t) ≡ last_at t
last_is t = ap last_of (plain-token t)

-- the step that the code takes with the token at a place
step_is : (tokens : List Token) (place : ℕ) (d : Token) (s : State) (header : Bool) → place < length tokens → header ≡ header_at (bare (view_tokens tokens)) place → (t : PToken) (more : List PToken) → drop place (view_tokens tokens) ≡ t ∷ more → step_at (view_tokens tokens) place s t ≡ step s (record { kind = kind_at (get_or tokens place d); header = header }) (first_at (get_or tokens place d)) (last_at (get_or tokens place d))
step_is tokens place d s header lt is t more at_t =
    let u = get_or tokens place d in
    ap (step_at (view_tokens tokens) place s) (token_is tokens place d t more lt at_t)
    ∙ ap (λ (k : Kind). step s (record { kind = k; header = header_at (bare (view_tokens tokens)) place }) (first_of (view_token u)) (last_of (view_token u))) (kind_is u)
    ∙ ap (λ (f : ℕ). step s (record { kind = kind_at u; header = header_at (bare (view_tokens tokens)) place }) f (last_of (view_token u))) (first_is u)
    ∙ ap (λ (l : ℕ). step s (record { kind = kind_at u; header = header_at (bare (view_tokens tokens)) place }) (first_at u) l) (last_is u)
    ∙ ap (λ (h : Bool). step s (record { kind = kind_at u; header = h }) (first_at u) (last_at u)) (sym is)

pub turning : (tokens : List Token) (place : ℕ) (d : Token) (s : State) (header : Bool) (o : Option State) → place < length tokens → header ≡ header_at (bare (view_tokens tokens)) place → StandsAt (view_tokens tokens) place s → step s (record { kind = kind_at (get_or tokens place d); header = header }) (first_at (get_or tokens place d)) (last_at (get_or tokens place d)) ≡ o → Turns (view_tokens tokens) place (λ t w. w ≡ o)
turning tokens place d s header o lt is stands makes = record { state = s; stands = stands; turn = λ t more at_t. step_is tokens place d s header lt is t more at_t ∙ makes }

pub reading_turn : (tokens : List Token) (place : ℕ) (d : Token) (s : State) (header : Bool) (r : Continuation) (n : Span) (b : SuiteStack) → place < length tokens → header ≡ header_at (bare (view_tokens tokens)) place → StandsAt (view_tokens tokens) place s → step s (record { kind = kind_at (get_or tokens place d); header = header }) (first_at (get_or tokens place d)) (last_at (get_or tokens place d)) ≡ reads r n b (expression.step (start (goal r)) (class (kind_at (get_or tokens place d)))) → n.last ≡ last_at (get_or tokens place d) → ReadsFrom (view_tokens tokens) place r n b
reading_turn tokens place d s header r n b lt is stands makes last =
    let u = get_or tokens place d in
    record {
      state = s;
      stands = stands;
      turn = λ t more at_t. (let same = token_is tokens place d t more lt at_t in (
        step_is tokens place d s header lt is t more at_t ∙ makes ∙ ap (λ (k : Kind). reads r n b (expression.step (start (goal r)) (class k))) (sym (ap bare_token same ∙ kind_is u)),
        last ∙ sym (ap last_of same ∙ last_is u),
      ));
    }

pub matching_turn : (tokens : List Token) (place : ℕ) (d : Token) (s : State) (header : Bool) (e : Expr) (l : ℕ) (cs : Cases) (n : Span) (b : SuiteStack) → place < length tokens → header ≡ header_at (bare (view_tokens tokens)) place → StandsAt (view_tokens tokens) place s → step s (record { kind = kind_at (get_or tokens place d); header = header }) (first_at (get_or tokens place d)) (last_at (get_or tokens place d)) ≡ act (Matching e l cs pattern.start) n b (kind_at (get_or tokens place d)) (first_at (get_or tokens place d)) (last_at (get_or tokens place d)) → MatchesFrom (view_tokens tokens) place e l cs n b
matching_turn tokens place d s header e l cs n b lt is stands makes =
    let u = get_or tokens place d in
    record {
      state = s;
      stands = stands;
      turn = λ t more at_t. (let same = token_is tokens place d t more lt at_t in
          step_is tokens place d s header lt is t more at_t ∙ makes
          ∙ ap (λ (k : Kind). act (Matching e l cs pattern.start) n b k (first_at u) (last_at u)) (sym (ap bare_token same ∙ kind_is u))
          ∙ ap (λ (f : ℕ). act (Matching e l cs pattern.start) n b (bare_token t) f (last_at u)) (sym (ap first_of same ∙ first_is u))
          ∙ ap (λ (x : ℕ). act (Matching e l cs pattern.start) n b (bare_token t) (first_of t) x) (sym (ap last_of same ∙ last_is u)));
    }

-- ---- lines

last_here : (tokens : List Token) (p : ℕ) (d : Token) → p < length tokens → last_there (view_tokens tokens) p ≡ last_at (get_or tokens p d)
last_here [] p d lt = absurd (omega arith)
last_here (t ∷ tokens) zero d lt = last_is t
last_here (t ∷ tokens) (suc p) d lt = last_here tokens p d (omega arith)

line_before_is : (tokens : List Token) (q : ℕ) (d : Token) → 0 < q → q ≤ length tokens → line_before (view_tokens tokens) q ≡ last_at (get_or tokens (q - 1) d)
line_before_is tokens zero d some le = absurd (omega arith)
line_before_is tokens (suc p) d some le = let one : suc p - 1 ≡ p = omega arith in last_here tokens p d (omega arith) ∙ ap (λ (n : ℕ). last_at (get_or tokens n d)) (sym one)

-- after an expression or a pattern
pub resuming : (tokens : List Token) (place q : ℕ) (d d' : Token) (o : Span → Kind → ℕ → Option State) (n : Span) (w : Option State) → Resumes (view_tokens tokens) place q o n → q < length tokens → o (record { begun = n.begun; first = n.first; last = last_at (get_or tokens (q - 1) d') }) (kind_at (get_or tokens q d)) (last_at (get_or tokens q d)) ≡ w → Turns (view_tokens tokens) q (λ t v. v ≡ w)
resuming tokens place q d d' o n w h lt makes =
    let turns = h.turns in
    let u = get_or tokens q d in
    let later = h.later in
    let line = line_before_is tokens q d' (omega arith) (omega arith) in
    record {
      state = turns.state;
      stands = turns.stands;
      turn = λ t more at_t. (let same = token_is tokens q d t more lt at_t in
          turns.turn t more at_t
          ∙ ap (λ (m : ℕ). o (record { begun = n.begun; first = n.first; last = m }) (bare_token t) (last_of t)) line
          ∙ ap (λ (k : Kind). o (record { begun = n.begun; first = n.first; last = last_at (get_or tokens (q - 1) d') }) k (last_of t)) (ap bare_token same ∙ kind_is u)
          ∙ ap (λ (m : ℕ). o (record { begun = n.begun; first = n.first; last = last_at (get_or tokens (q - 1) d') }) (kind_at u) m) (ap last_of same ∙ last_is u)
          ∙ makes);
    }

-- the line of a refusal
pub line_inside : (tokens : List Token) (p : ℕ) (d : Token) → p < length tokens → first_at (get_or tokens p d) ≡ line_of (view_tokens tokens) p
line_inside [] p d lt = absurd (omega arith)
line_inside (t ∷ []) zero d lt = sym (first_is t)
line_inside (t ∷ u ∷ tokens) zero d lt = sym (first_is t)
line_inside (t ∷ []) (suc p) d lt = absurd (omega arith)
line_inside (t ∷ u ∷ tokens) (suc p) d lt = line_inside (u ∷ tokens) p d (omega arith)

pub line_none : (tokens : List Token) (p : ℕ) → length tokens ≡ 0 → 1 ≡ line_of (view_tokens tokens) p
line_none [] p h = refl
line_none (t ∷ tokens) p h = absurd (omega arith)

line_last : (tokens : List Token) (p : ℕ) (d : Token) → 0 < p → p ≡ length tokens → line_of (view_tokens tokens) p ≡ last_at (get_or tokens (p - 1) d)
line_last [] p d some h = absurd (omega arith)
line_last (t ∷ []) zero d some h = absurd (omega arith)
line_last (t ∷ []) (suc p) d some h = let one : suc p - 1 ≡ 0 = omega arith in last_is t ∙ ap (λ (n : ℕ). last_at (get_or (t ∷ []) n d)) (sym one)
line_last (t ∷ u ∷ tokens) zero d some h = absurd (omega arith)
line_last (t ∷ u ∷ tokens) (suc p) d some h = let one : suc p - 1 ≡ suc (p - 1) = omega arith in line_last (u ∷ tokens) p d (omega arith) (omega arith) ∙ ap (λ (n : ℕ). last_at (get_or (t ∷ u ∷ tokens) n d)) (sym one)

pub line_after : (tokens : List Token) (p : ℕ) (d : Token) → 0 < p → p ≡ length tokens → last_at (get_or tokens (p - 1) d) ≡ line_of (view_tokens tokens) p
line_after tokens p d some h = sym (line_last tokens p d some h)

pub ruleset line_at_rules = (line_inside, line_none, line_after)
