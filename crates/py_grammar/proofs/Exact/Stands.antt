-- A reading that stands at a place of a list, and what its end says of all trees.
use Rattle.std.proofs.Common.{◌≡◌, ℕ, ◌+◌, ◌≤◌, ◌<◌, List, [], ◌∷◌, ◌++◌, Option, Some, None, refl, sym, ap, ◌∙◌, arith, append_assoc}
use Rattle.py_syntax.specs.Tree.{Expr}
use Rattle.py_syntax.specs.Kinds.{Kind}
use Rattle.py_syntax.specs.Normal.{height}
use Rattle.std.proofs.Common.{length, take, drop}
use Rattle.std.proofs.lemmas.List.{take_all, take_at, length-drop, length-append, take-append-drop}
use Rattle.py_grammar.specs.Refusal.{Spells, IsUnexpected, IsTooDeep}
use Rattle.py_grammar.proofs.Exact.Whole.{Whole, Over, next, done, lowest, begun, reading, onward, complete, sound, viable_within, within_viable, viable_from, viable_to, run_append}

-- The tokens in front of the place lead to that state, and no state on the way was too high.
pub record Stands (limit : ℕ) (ts : List Kind) (place : ℕ) (s : Whole) : Type 0 where
  pub inside : place ≤ length ts
  pub passes : reading begun (take place ts) ≡ Some s
  pub low : lowest s ≤ limit

pub stands_first : (limit : ℕ) (ts : List Kind) → 1 ≤ limit → Stands limit ts 0 begun
stands_first limit ts some = record { inside = omega arith; passes = refl; low = some }

extends : (front : List Kind) (s : Whole) (t : Kind) → reading begun front ≡ Some s → reading begun (front ++ t ∷ []) ≡ next s t
extends front s t h = run_append begun front (t ∷ []) ∙ ap (λ (o : Option Whole). onward o (t ∷ [])) h ∙ last (next s t)
  where
    last : (o : Option Whole) → onward o [] ≡ o
    last None = refl
    last (Some n) = refl

-- the tokens up to the one at a place
one_more : (ts : List Kind) (place : ℕ) (t : Kind) (rest : List Kind) → place ≤ length ts → drop place ts ≡ t ∷ rest → take (place + 1) ts ≡ take place ts ++ t ∷ []
one_more ts place t rest inside is =
    let split : ts ≡ take place ts ++ t ∷ rest = sym (take-append-drop place ts) ∙ ap (λ (x : List Kind). take place ts ++ x) is in
    let regroup : ts ≡ (take place ts ++ t ∷ []) ++ rest = split ∙ sym (append_assoc (take place ts) (t ∷ []) rest) in
    let all = ap length split in
    let len : length (take place ts) ≡ place = omega (arith, length-append (take place ts) (t ∷ rest), length-drop place ts, ap length is) in
    ap (take (place + 1)) regroup ∙ take_at (take place ts ++ t ∷ []) rest (place + 1) (omega (arith, length-append (take place ts) (t ∷ [])))

pub after : (limit : ℕ) (ts : List Kind) (place : ℕ) (s : Whole) (t : Kind) (rest : List Kind) → Stands limit ts place s → drop place ts ≡ t ∷ rest → reading begun (take (place + 1) ts) ≡ next s t
after limit ts place s t rest h is = ap (reading begun) (one_more ts place t rest h.inside is) ∙ extends (take place ts) s t h.passes

inside_more : (ts : List Kind) (place : ℕ) (t : Kind) (rest : List Kind) → place ≤ length ts → drop place ts ≡ t ∷ rest → place < length ts
inside_more ts place t rest inside is = let all = ap length is in omega (arith, length-drop place ts)

-- one step on
pub goes_on : (limit : ℕ) (ts : List Kind) (place : ℕ) (s n : Whole) (t : Kind) (rest : List Kind) → Stands limit ts place s → drop place ts ≡ t ∷ rest → next s t ≡ Some n → lowest n ≤ limit → Stands limit ts (place + 1) n
goes_on limit ts place s n t rest h is steps low =
    let inside = h.inside in
    let more = inside_more ts place t rest inside is in
    record { inside = omega arith; passes = after limit ts place s t rest h is ∙ steps; low = low }

first_of : (ts : List Kind) (place : ℕ) → place < length ts → (t : Kind) × (rest : List Kind) × (drop place ts ≡ t ∷ rest)
first_of ts place lt = go (drop place ts) refl
  where
    go : (all : List Kind) → drop place ts ≡ all → (t : Kind) × (rest : List Kind) × (drop place ts ≡ t ∷ rest)
    go [] is = let none = ap length is in absurd (omega (arith, length-drop place ts))
    go (t ∷ rest) is = (t, rest, is)

-- No step takes the next token, or the list is at its end and no tree is whole.
pub unexpected : (limit : ℕ) (ts : List Kind) (place : ℕ) (s : Whole) → Stands limit ts place s → (place ≡ length ts → done s ≡ None) → ((t : Kind) (rest : List Kind) → drop place ts ≡ t ∷ rest → next s t ≡ None) → IsUnexpected limit ts place
unexpected limit ts place s h ends stuck = (
  record { inside = h.inside; viable = viable_within limit (take place ts) s h.passes h.low; longest = λ lt v. none lt (let w = within_viable limit (take (place + 1) ts) v in (w.0, w.1)); no_tree = no_tree },
  λ lt v. none lt (viable_to (take (place + 1) ts) v),
)
  where
    none : place < length ts → (n : Whole) × (reading begun (take (place + 1) ts) ≡ Some n) → ⊥
    none lt n = let f = first_of ts place lt in let both = sym (stuck f.0 f.1 f.2) ∙ sym (after limit ts place s f.0 f.1 h f.2) ∙ n.1 in cc

    no_tree : place ≡ length ts → (e : Expr) → Spells e ts → ⊥
    no_tree at e spells =
        let c = complete e ts spells in
        let all : take place ts ≡ ts = take_all place ts (omega arith) in
        let here : Some s ≡ Some c.0 = sym h.passes ∙ ap (reading begun) all ∙ c.1 in
        let same : s ≡ c.0 = cc in
        let both = sym (ends at) ∙ ap done same ∙ c.2 in
        cc

-- The next token is taken, to a state that is too high.
pub too_deep : (limit : ℕ) (ts : List Kind) (place : ℕ) (s n : Whole) (t : Kind) (rest : List Kind) → Stands limit ts place s → drop place ts ≡ t ∷ rest → next s t ≡ Some n → limit < lowest n → IsTooDeep limit ts place
too_deep limit ts place s n t rest h is steps high =
    let lt = inside_more ts place t rest h.inside is in
    let passes : reading begun (take (place + 1) ts) ≡ Some n = after limit ts place s t rest h is ∙ steps in (
      record { inside = h.inside; viable = viable_within limit (take place ts) s h.passes h.low; longest = λ less v. longest passes (within_viable limit (take (place + 1) ts) v); no_tree = λ at e spells. absurd (omega arith) },
      lt,
      viable_from (take (place + 1) ts) n passes,
    )
  where
    longest : reading begun (take (place + 1) ts) ≡ Some n → (m : Whole) × (reading begun (take (place + 1) ts) ≡ Some m) × (lowest m ≤ limit) → ⊥
    longest passes m =
        let here : Some n ≡ Some m.0 = sym passes ∙ m.1 in
        let same : n ≡ m.0 = cc in
        let low = m.2 in
        let is_low = ap lowest same in
        omega arith

-- The tree is whole and nothing stands after its end.
pub whole_list : (limit : ℕ) (ts : List Kind) (e : Expr) → Stands limit ts (length ts) (Over e) → Spells e ts × (height e ≤ limit)
whole_list limit ts e h =
    let all : take (length ts) ts ≡ ts = take_all (length ts) ts (omega arith) in
    (sound ts (Over e) e (ap (reading begun) (sym all) ∙ h.passes) refl, h.low)
