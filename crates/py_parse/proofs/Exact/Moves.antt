-- A reading that stands at a place goes on where a step keeps to the limits.
use Rattle.std.proofs.Common.{◌≡◌, ℕ, ◌+◌, ◌≤◌, ◌<◌, max, List, [], ◌∷◌, take, drop, Option, Some, None, refl, subst, arith}
use Rattle.py_syntax.specs.Spelling.{HEIGHT, NESTING}
use Rattle.py_token.specs.Plain.{PToken}
use Rattle.py_statements.specs.Machine.{State, begun}
use Rattle.py_parse.specs.Refusal.{HasDeepSuites, HasDeepExpressions}
use Rattle.py_parse.proofs.Sound.Valid.{Valid}
use Rattle.py_parse.proofs.Sound.Keeps.{step_keeps, valid_begun}
use Rattle.py_parse.proofs.Exact.WholeLists.{Lexeme, next, reading}
use Rattle.py_parse.proofs.Exact.WholeTokens.{with_lines}
use Rattle.py_parse.proofs.Exact.WholeStands.{Stands, goes_on, deep_suites, deep_expressions}
use Rattle.py_parse.proofs.Least.Weights.{state_height, state_nesting, is_tall, is_deep, inner, level, GrowsWithin}
use Rattle.py_parse.proofs.Least.FormsGrowWithin.{level_deep, inner_tall}
use Rattle.py_parse.proofs.Least.StepGrowsWithin.{step_grows_within, apt_state}

-- the state is valid
valid_run : (s last : State) (ts : List Lexeme) → Valid s → reading s ts ≡ Some last → Valid last
valid_run s last [] valid h = let same : s ≡ last = cc in subst Valid same valid
valid_run s last (t ∷ ts) valid h = go (λ n. valid_run n last ts) (next s t) refl h
  where
    go : ((n : State) → Valid n → reading n ts ≡ Some last → Valid last) → (o : Option State) → next s t ≡ o → (elim o as (λ (w : Option State). Option State) [ None ↦ None | Some n ↦ reading n ts ]) ≡ Some last → Valid last
    go rec None is h = absurd cc
    go rec (Some n) is h = rec n (step_keeps s n t.mark t.first t.last valid is) h

pub stands_valid : (ts : List PToken) (place : ℕ) (s : State) → Stands ts place s → Valid s
stands_valid ts place s h = valid_run begun s (take place (with_lines ts)) valid_begun h.passes

-- how high and how deep the next state is
pub grows_within : (ts : List PToken) (place : ℕ) (s n : State) (t : Lexeme) → Stands ts place s → next s t ≡ Some n → (state_height n ≤ max HEIGHT (inner n)) × (state_nesting n ≤ max NESTING (level n))
grows_within ts place s n t h is =
    let valid = stands_valid ts place s h in
    let low = h.low in let shallow = h.shallow in
    let one = is_tall s (apt_state s valid) in let two = is_deep s (apt_state s valid) in
    let k : GrowsWithin (state_height s) (state_nesting s) (Some n) = subst (GrowsWithin (state_height s) (state_nesting s)) is (step_grows_within s t.mark t.first t.last valid) in
    let high = k.0 in let down = k.1 in
    (omega arith, omega arith)

pub moves : (ts : List PToken) (place : ℕ) (s n : State) (t : Lexeme) (rest : List Lexeme) → Stands ts place s → drop place (with_lines ts) ≡ t ∷ rest → next s t ≡ Some n → inner n ≤ HEIGHT → level n ≤ NESTING → Stands ts (place + 1) n
moves ts place s n t rest h there is low flat =
    let valid = step_keeps s n t.mark t.first t.last (stands_valid ts place s h) is in
    let k = grows_within ts place s n t h is in let high = k.0 in let down = k.1 in
    let one = is_tall n (apt_state n valid) in let two = is_deep n (apt_state n valid) in
    goes_on ts place s n t rest h there is (omega arith) (omega arith)

-- too many suites inside each other
pub too_many : (ts : List PToken) (place : ℕ) (s n : State) (t : Lexeme) (rest : List Lexeme) → Stands ts place s → drop place (with_lines ts) ≡ t ∷ rest → next s t ≡ Some n → NESTING < level n → HasDeepSuites ts place
too_many ts place s n t rest h there is over =
    let valid = step_keeps s n t.mark t.first t.last (stands_valid ts place s h) is in
    let one = is_deep n (apt_state n valid) in let two = level_deep n in
    deep_suites ts place s n t rest h there is (omega arith)

-- the expression or the pattern that is read is too high
pub too_high : (ts : List PToken) (place : ℕ) (s n : State) (t : Lexeme) (rest : List Lexeme) → Stands ts place s → drop place (with_lines ts) ≡ t ∷ rest → next s t ≡ Some n → level n ≤ NESTING → HEIGHT < inner n → HasDeepExpressions ts place
too_high ts place s n t rest h there is flat over =
    let valid = step_keeps s n t.mark t.first t.last (stands_valid ts place s h) is in
    let k = grows_within ts place s n t h is in let down = k.1 in
    let one = is_tall n (apt_state n valid) in let two = is_deep n (apt_state n valid) in let three = inner_tall n in
    deep_expressions ts place s n t rest h there is (omega arith) (omega arith)
