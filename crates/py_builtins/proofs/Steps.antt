-- The numbers of a range, one by one.
use Rattle.std.proofs.Common.{◌≡◌, ℕ, zero, suc, ◌+◌, ◌-◌, ◌<◌, ◌≤◌, ℤ, ◌+ℤ◌, Bool, true, false, List, [], ◌∷◌, ◌++◌, refl, ap, sym, ◌∙◌, append_assoc, append-nil, arith}
use Rattle.py_value.specs.Plain.{PlainValue, int_value}
use Rattle.py_builtins.specs.Builtins.{is_before, numbers_before}

none_before : (most : ℕ) (bound step n : ℤ) → is_before step n bound ≡ false → numbers_before most bound step n ≡ []
unfolding numbers_before
none_before zero bound step n e = refl
none_before (suc most) bound step n e = ap (λ (b : Bool). elim b as (λ (c : Bool). List PlainValue) [ true ↦ int_value n ∷ numbers_before most bound step (n +ℤ step) | false ↦ [] ]) e

one_before : (most : ℕ) (bound step n : ℤ) → is_before step n bound ≡ true → numbers_before (suc most) bound step n ≡ int_value n ∷ numbers_before most bound step (n +ℤ step)
unfolding numbers_before
one_before most bound step n e = ap (λ (b : Bool). elim b as (λ (c : Bool). List PlainValue) [ true ↦ int_value n ∷ numbers_before most bound step (n +ℤ step) | false ↦ [] ]) e

no_turns : (bound step n : ℤ) → numbers_before zero bound step n ≡ []
unfolding numbers_before
no_turns bound step n = refl

-- the bound is reached
pub numbers_end : (most turn : ℕ) (bound step n : ℤ) (now want : List PlainValue) → is_before step n bound ≡ false → now ++ numbers_before (most - turn) bound step n ≡ want → now ≡ want
numbers_end most turn bound step n now want e w = sym (append-nil now) ∙ ap (λ ns. now ++ ns) (sym (none_before (most - turn) bound step n e)) ∙ w

-- one more number
pub numbers_on : (most turn : ℕ) (bound step n next : ℤ) (now more want : List PlainValue) → turn < most → is_before step n bound ≡ true → next ≡ n +ℤ step → more ≡ now ++ int_value n ∷ []
    → now ++ numbers_before (most - turn) bound step n ≡ want → more ++ numbers_before (most - (turn + 1)) bound step next ≡ want
numbers_on most turn bound step n next now more want l e f g w =
    let k : most - turn ≡ suc (most - (turn + 1)) = omega arith in
    ap (λ ns. ns ++ numbers_before (most - (turn + 1)) bound step next) g ∙ append_assoc now (int_value n ∷ []) (numbers_before (most - (turn + 1)) bound step next)
    ∙ ap (λ m. now ++ (int_value n ∷ numbers_before (most - (turn + 1)) bound step m)) f
    ∙ ap (λ ns. now ++ ns) (sym (one_before (most - (turn + 1)) bound step n e)) ∙ ap (λ j. now ++ numbers_before j bound step n) (sym k) ∙ w

-- the last number, where the next one stands after the bound
pub numbers_last : (most turn : ℕ) (bound step n : ℤ) (now more want : List PlainValue) → turn < most → is_before step n bound ≡ true → is_before step (n +ℤ step) bound ≡ false → more ≡ now ++ int_value n ∷ []
    → now ++ numbers_before (most - turn) bound step n ≡ want → more ≡ want
numbers_last most turn bound step n now more want l e f g w =
    numbers_end most (turn + 1) bound step (n +ℤ step) more want f (numbers_on most turn bound step n (n +ℤ step) now more want l e refl g w)

-- so many numbers
pub numbers_all : (most turn : ℕ) (bound step n : ℤ) (now want : List PlainValue) → most ≤ turn → now ++ numbers_before (most - turn) bound step n ≡ want → now ≡ want
numbers_all most turn bound step n now want l w =
    let k : most - turn ≡ zero = omega arith in
    sym (append-nil now) ∙ ap (λ ns. now ++ ns) (sym (no_turns bound step n)) ∙ ap (λ j. now ++ numbers_before j bound step n) (sym k) ∙ w
