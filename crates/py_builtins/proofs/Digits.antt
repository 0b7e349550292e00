-- Numbers in texts, up to the greatest number of 64 bits.
use Rattle.std.proofs.Common.{◌≡◌, ℕ, ◌+◌, ◌-◌, ◌*◌, ◌<◌, ◌≤◌, min, Bool, true, false, List, [], ◌∷◌, length, get_or, drop, Option, Some, None, refl, ap, sym, ◌∙◌, arith, if◌then◌else◌}
use Rattle.std.proofs.lemmas.List.{at_drop_more, at_drop_all}
use Rattle.py_builtins.specs.Builtins.{is_digit, are_blanks, digits_then_blanks}
use Rattle.py_builtins.specs.Calls.{capped}

some_capped : (m n : ℕ) → min m 18446744073709551615 ≡ min n 18446744073709551615 → capped (Some m) ≡ capped (Some n)
some_capped m n e = ap (λ k. let o : Option ℕ = Some k in o) e

cap_more : (m n d : ℕ) → min m 18446744073709551615 ≡ min n 18446744073709551615 → min (10 * m + d) 18446744073709551615 ≡ min (10 * n + d) 18446744073709551615
cap_more m n d e = omega arith

ended_capped : (m n : ℕ) (b : Bool) → min m 18446744073709551615 ≡ min n 18446744073709551615 → capped (if b then Some m else None) ≡ capped (if b then Some n else None)
ended_capped m n true e = some_capped m n e
ended_capped m n false e = refl

digit_capped : (b p : Bool) (x y : Option ℕ) (m n : ℕ) → capped x ≡ capped y → min m 18446744073709551615 ≡ min n 18446744073709551615
    → capped (if b then x else if p then Some m else None) ≡ capped (if b then y else if p then Some n else None)
digit_capped true p x y m n e f = e
digit_capped false p x y m n e f = ended_capped m n p f

-- what stands before the next digit counts up to the greatest number
pub digits_capped : (cs : List ℕ) (m n : ℕ) → min m 18446744073709551615 ≡ min n 18446744073709551615 → capped (digits_then_blanks m cs) ≡ capped (digits_then_blanks n cs)
digits_capped [] m n e = some_capped m n e
digits_capped (c ∷ cs) m n e =
    digit_capped (is_digit c) (are_blanks (c ∷ cs)) (digits_then_blanks (10 * m + (c - 48)) cs) (digits_then_blanks (10 * n + (c - 48)) cs) m n
    (digits_capped cs (10 * m + (c - 48)) (10 * n + (c - 48)) (cap_more m n (c - 48) e)) e

abbrev one_digit : ℕ → ℕ → List ℕ → Bool → Option ℕ
one_digit n c cs b = if b then digits_then_blanks (10 * n + (c - 48)) cs else if are_blanks (c ∷ cs) then Some n else None

-- one more digit
pub digit_on : (cs : List ℕ) (i c n next : ℕ) (want : Option ℕ) → i < length cs → c ≡ get_or cs i c → is_digit c ≡ true → next ≡ min (min (n * 10) 18446744073709551615 + (c - 48)) 18446744073709551615
    → capped (digits_then_blanks n (drop i cs)) ≡ want → capped (digits_then_blanks next (drop (i + 1) cs)) ≡ want
digit_on cs i c n next want l e d f w =
    digits_capped (drop (i + 1) cs) next (10 * n + (c - 48)) (omega (arith, f))
    ∙ ap (λ b. capped (one_digit n c (drop (i + 1) cs) b)) (sym d)
    ∙ ap (λ x. capped (digits_then_blanks n (x ∷ drop (i + 1) cs))) e
    ∙ sym (at_drop_more (λ (xs : List ℕ). capped (digits_then_blanks n xs)) cs i c l) ∙ w

-- after the digits
pub digits_end : (cs : List ℕ) (i c n : ℕ) (want : Option ℕ) → i < length cs → c ≡ get_or cs i c → is_digit c ≡ false
    → capped (digits_then_blanks n (drop i cs)) ≡ want → capped (if are_blanks (drop i cs) then Some n else None) ≡ want
digits_end cs i c n want l e d w =
    at_drop_more (λ (xs : List ℕ). capped (if are_blanks xs then Some n else None)) cs i c l
    ∙ ap (λ x. capped (if are_blanks (x ∷ drop (i + 1) cs) then Some n else None)) (sym e)
    ∙ ap (λ b. capped (one_digit n c (drop (i + 1) cs) b)) (sym d)
    ∙ ap (λ x. capped (digits_then_blanks n (x ∷ drop (i + 1) cs))) e
    ∙ sym (at_drop_more (λ (xs : List ℕ). capped (digits_then_blanks n xs)) cs i c l) ∙ w

-- the end of the text
pub digits_all : (cs : List ℕ) (i n : ℕ) (want : Option ℕ) → length cs ≤ i → capped (digits_then_blanks n (drop i cs)) ≡ want → capped (Some n) ≡ want
digits_all cs i n want l w = sym (at_drop_all (λ (xs : List ℕ). capped (digits_then_blanks n xs)) cs i l) ∙ w

-- a number of 64 bits
pub held : (n : ℕ) → n ≤ 18446744073709551615 → Some n ≡ capped (Some n)
held n l = let e : n ≡ min n 18446744073709551615 = omega arith in ap (λ k. let o : Option ℕ = Some k in o) e
