-- A reading that stands at a place of a list, and what its end says of all trees.
use Rattle.std.proofs.Common.{◌≡◌, ℕ, zero, suc, Bool, true, ◌+◌, ◌≤◌, ◌<◌, List, [], ◌∷◌, ◌++◌, length, take, drop, Option, Some, None, refl, sym, ap, ◌∙◌, arith, append_assoc}
use Rattle.std.proofs.lemmas.List.{take_all, take_at, length-drop, length-append, take-append-drop}
use Rattle.py_token.specs.Plain.{PToken, first_of, last_of}
use Rattle.py_syntax.specs.Tree.{Stmts}
use Rattle.py_syntax.specs.Kinds.{bare_token, bare}
use Rattle.py_syntax.specs.Headers.{Marked, ends_line, marked_from}
use Rattle.py_syntax.specs.Statements.{stmts_height, stmts_nesting}
use Rattle.py_syntax.specs.Spelling.{Spells, HEIGHT, NESTING, front}
use Rattle.py_statements.specs.Machine.{State, Over, begun, done}
use Rattle.py_parse.specs.Least.{least_height, least_nesting}
use Rattle.py_parse.specs.Refusal.{IsUnexpected, IsTooDeep, HasDeepSuites, HasDeepExpressions}
use Rattle.py_parse.proofs.Exact.WholeLists.{Lexeme, next, reading, reading_append}
use Rattle.py_parse.proofs.Exact.WholeTokens.{lexemes, with_lines, reached, spells_to, spells_from, viable_within, within_viable, viable_from, viable_to, nests_within, nests_too_deep}

-- The tokens in front of the place lead to that state, and no state on the way was past a limit.
pub record Stands (ts : List PToken) (place : ℕ) (s : State) : Type 0 where
  pub inside : place ≤ length ts
  pub passes : reached place ts ≡ Some s
  pub low : least_height s ≤ HEIGHT
  pub shallow : least_nesting s ≤ NESTING

pub stands_first : (ts : List PToken) → Stands ts 0 begun
stands_first ts = record { inside = omega arith; passes = refl; low = omega arith; shallow = omega arith }

-- ---- the token at the place

lexeme_count : (begins : Bool) (ts : List PToken) → length (lexemes (marked_from begins (bare ts)) ts) ≡ length ts
lexeme_count begins [] = refl
lexeme_count begins (t ∷ ts) = ap suc (lexeme_count (ends_line (bare_token t)) ts)

pub count : (ts : List PToken) → length (with_lines ts) ≡ length ts
count ts = lexeme_count true ts

-- with its mark and its lines
pub lexeme_at : (place : ℕ) (ms : List Marked) (ts : List PToken) (m : Marked) (rest : List Marked) (t : PToken) (more : List PToken) → drop place ms ≡ m ∷ rest → drop place ts ≡ t ∷ more → drop place (lexemes ms ts) ≡ record { mark = m; first = first_of t; last = last_of t } ∷ lexemes rest more
lexeme_at place [] ts m rest t more h i = let nil : List Marked = [] in let none = ap length h in absurd (omega (arith, length-drop place nil))
lexeme_at place (x ∷ ms) [] m rest t more h i = let nil : List PToken = [] in let none = ap length i in absurd (omega (arith, length-drop place nil))
lexeme_at zero (x ∷ ms) (u ∷ ts) m rest t more h i =
    let one : x ≡ m = cc in let two : ms ≡ rest = cc in let three : u ≡ t = cc in let four : ts ≡ more = cc in
    ap (λ (y : Marked). record { mark = y; first = first_of u; last = last_of u } ∷ lexemes ms ts) one
    ∙ ap (λ (y : PToken). record { mark = m; first = first_of y; last = last_of y } ∷ lexemes ms ts) three
    ∙ ap (λ (y : List Marked). record { mark = m; first = first_of t; last = last_of t } ∷ lexemes y ts) two
    ∙ ap (λ (y : List PToken). record { mark = m; first = first_of t; last = last_of t } ∷ lexemes rest y) four
lexeme_at (suc place) (x ∷ ms) (u ∷ ts) m rest t more h i = lexeme_at place ms ts m rest t more h i

abbrev onward : Option State → List Lexeme → Option State
onward o ts = elim o as (λ (w : Option State). Option State) [ None ↦ None | Some n ↦ reading n ts ]

extends : (front : List Lexeme) (s : State) (t : Lexeme) → reading begun front ≡ Some s → reading begun (front ++ t ∷ []) ≡ next s t
extends front s t h = reading_append begun front (t ∷ []) ∙ ap (λ (o : Option State). onward o (t ∷ [])) h ∙ last (next s t)
  where
    last : (o : Option State) → onward o [] ≡ o
    last None = refl
    last (Some n) = refl

-- the tokens up to the one at a place
one_more : (ts : List Lexeme) (place : ℕ) (t : Lexeme) (rest : List Lexeme) → place ≤ length ts → drop place ts ≡ t ∷ rest → take (place + 1) ts ≡ take place ts ++ t ∷ []
one_more ts place t rest inside is =
    let split : ts ≡ take place ts ++ t ∷ rest = sym (take-append-drop place ts) ∙ ap (λ (x : List Lexeme). take place ts ++ x) is in
    let regroup : ts ≡ (take place ts ++ t ∷ []) ++ rest = split ∙ sym (append_assoc (take place ts) (t ∷ []) rest) in
    let all = ap length split in
    let len : length (take place ts) ≡ place = omega (arith, length-append (take place ts) (t ∷ rest), length-drop place ts, ap length is) in
    ap (take (place + 1)) regroup ∙ take_at (take place ts ++ t ∷ []) rest (place + 1) (omega (arith, length-append (take place ts) (t ∷ [])))

pub after : (ts : List PToken) (place : ℕ) (s : State) (t : Lexeme) (rest : List Lexeme) → Stands ts place s → drop place (with_lines ts) ≡ t ∷ rest → reached (place + 1) ts ≡ next s t
after ts place s t rest h is =
    let inside = h.inside in
    let long = count ts in
    ap (reading begun) (one_more (with_lines ts) place t rest (omega arith) is) ∙ extends (take place (with_lines ts)) s t h.passes

inside_more : (ts : List PToken) (place : ℕ) (t : Lexeme) (rest : List Lexeme) → place ≤ length ts → drop place (with_lines ts) ≡ t ∷ rest → place < length ts
inside_more ts place t rest inside is = let all = ap length is in let long = count ts in omega (arith, length-drop place (with_lines ts))

-- one step on
pub goes_on : (ts : List PToken) (place : ℕ) (s n : State) (t : Lexeme) (rest : List Lexeme) → Stands ts place s → drop place (with_lines ts) ≡ t ∷ rest → next s t ≡ Some n → least_height n ≤ HEIGHT → least_nesting n ≤ NESTING → Stands ts (place + 1) n
goes_on ts place s n t rest h is steps low shallow =
    let inside = h.inside in
    let more = inside_more ts place t rest inside is in
    record { inside = omega arith; passes = after ts place s t rest h is ∙ steps; low = low; shallow = shallow }

first_at : (ts : List PToken) (place : ℕ) → place < length ts → (t : Lexeme) × (rest : List Lexeme) × (drop place (with_lines ts) ≡ t ∷ rest)
first_at ts place lt = go (drop place (with_lines ts)) refl
  where
    go : (all : List Lexeme) → drop place (with_lines ts) ≡ all → (t : Lexeme) × (rest : List Lexeme) × (drop place (with_lines ts) ≡ t ∷ rest)
    go [] is = let none = ap length is in let long = count ts in absurd (omega (arith, length-drop place (with_lines ts)))
    go (t ∷ rest) is = (t, rest, is)

-- ---- a reading ends

-- No step takes the next token, or the list is at its end and no tree is whole.
pub unexpected : (ts : List PToken) (place : ℕ) (s : State) → Stands ts place s → (place ≡ length ts → done s ≡ None) → ((t : Lexeme) (rest : List Lexeme) → drop place (with_lines ts) ≡ t ∷ rest → next s t ≡ None) → IsUnexpected ts place
unexpected ts place s h ends stuck = (
  record { inside = h.inside; viable = viable_within place ts s h.passes h.low h.shallow; longest = λ lt v. none lt (let w = within_viable (place + 1) ts v in (w.0, w.1)); no_tree = no_tree },
  λ lt v. none lt (viable_to (place + 1) ts v),
)
  where
    none : place < length ts → (n : State) × (reached (place + 1) ts ≡ Some n) → ⊥
    none lt n = let f = first_at ts place lt in let both = sym (stuck f.0 f.1 f.2) ∙ sym (after ts place s f.0 f.1 h f.2) ∙ n.1 in cc

    no_tree : place ≡ length ts → (m : Stmts) → Spells m ts → ⊥
    no_tree at m spells =
        let long = count ts in
        let all : take place (with_lines ts) ≡ with_lines ts = take_all place (with_lines ts) (omega arith) in
        let here : Some s ≡ Some (Over m) = sym h.passes ∙ ap (reading begun) all ∙ spells_to m ts spells in
        let same : s ≡ Over m = cc in
        let both = sym (ends at) ∙ ap done same in
        cc

-- The next token is taken, to a state that is past a limit.
stops : (ts : List PToken) (place : ℕ) (s n : State) (t : Lexeme) (rest : List Lexeme) → Stands ts place s → drop place (with_lines ts) ≡ t ∷ rest → next s t ≡ Some n → (least_height n ≤ HEIGHT → least_nesting n ≤ NESTING → ⊥) → IsTooDeep ts place
stops ts place s n t rest h is steps past =
    let lt = inside_more ts place t rest h.inside is in
    let passes : reached (place + 1) ts ≡ Some n = after ts place s t rest h is ∙ steps in (
      record { inside = h.inside; viable = viable_within place ts s h.passes h.low h.shallow; longest = λ less v. longest passes (within_viable (place + 1) ts v); no_tree = λ at m spells. absurd (omega arith) },
      lt,
      viable_from (place + 1) ts n passes,
    )
  where
    longest : reached (place + 1) ts ≡ Some n → (m : State) × (reached (place + 1) ts ≡ Some m) × (least_height m ≤ HEIGHT) × (least_nesting m ≤ NESTING) → ⊥
    longest passes m =
        let here : Some n ≡ Some m.0 = sym passes ∙ m.1 in
        let same : n ≡ m.0 = cc in
        let low = m.2 in
        let shallow = m.3 in
        let as_high = ap least_height same in
        let as_deep = ap least_nesting same in
        past (omega arith) (omega arith)

-- It has too many suites inside each other,
pub deep_suites : (ts : List PToken) (place : ℕ) (s n : State) (t : Lexeme) (rest : List Lexeme) → Stands ts place s → drop place (with_lines ts) ≡ t ∷ rest → next s t ≡ Some n → NESTING < least_nesting n → HasDeepSuites ts place
deep_suites ts place s n t rest h is steps deep = (
  stops ts place s n t rest h is steps (λ low shallow. omega arith),
  nests_too_deep (place + 1) ts n (after ts place s t rest h is ∙ steps) deep,
)

-- or else expressions and patterns that are too high.
pub deep_expressions : (ts : List PToken) (place : ℕ) (s n : State) (t : Lexeme) (rest : List Lexeme) → Stands ts place s → drop place (with_lines ts) ≡ t ∷ rest → next s t ≡ Some n → least_nesting n ≤ NESTING → HEIGHT < least_height n → HasDeepExpressions ts place
deep_expressions ts place s n t rest h is steps shallow high = (
  stops ts place s n t rest h is steps (λ low deep. omega arith),
  nests_within (place + 1) ts n (after ts place s t rest h is ∙ steps) shallow,
)

-- The tree is whole and nothing stands after its end.
pub whole_list : (ts : List PToken) (m : Stmts) → Stands ts (length ts) (Over m) → Spells m ts × (stmts_height m ≤ HEIGHT) × (stmts_nesting m ≤ NESTING)
whole_list ts m h =
    let long = count ts in
    let all : take (length ts) (with_lines ts) ≡ with_lines ts = take_all (length ts) (with_lines ts) (omega arith) in
    (spells_from m ts (ap (reading begun) (sym all) ∙ h.passes), h.low, h.shallow)
