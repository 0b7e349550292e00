-- Escapes by the codes of characters.
use Rattle.std.proofs.Common.{◌≡◌, ◌≤◌, ◌<◌, ◌+◌, ◌*◌, ◌^◌, min, ℕ, zero, suc, Bool, true, false, cond, List, [], ◌∷◌, length, take, eqb, refl, sym, ap, ◌∙◌, arith}
use Rattle.std.proofs.Math.Nat.{mul-le-mul_left}
use Rattle.std.proofs.lemmas.Bool.{ltb-true}
use Rattle.std.proofs.lemmas.Bool.Decides.{nat_tests}
use Rattle.std.proofs.lemmas.List.{length-take-le}
use Rattle.std.specs.List.{list_all, prefix_len}
use Rattle.std.specs.Char.{digit_value}
use Rattle.py_token.specs.Numbers.{digits_value, is_digit_of}
use Rattle.py_token.specs.Strings.{holds, is_character, hex_item, octal_len, octal_item}

character_small : (n : ℕ) → is_character n ≡ true → n < 0x110000
character_small n is = grind (arith, nat_tests)

-- a code that is held whole
whole_code : (v : ℕ) → is_character (min v (2 ^ 63)) ≡ true → min v (2 ^ 63) ≡ v
whole_code v is = let small = character_small (min v (2 ^ 63)) is in omega (arith, small)

pub hex_found : (line n c v : ℕ) (cs : List ℕ) → n ≤ length cs → true ≡ list_all (is_digit_of 16) (take n cs) → v ≡ min (digits_value 16 0 (take n cs)) (2 ^ 63) → is_character v ≡ true → c ≡ v → holds (c ∷ []) (n + 1) line ≡ hex_item line n cs
unfolding hex_item
hex_found line n c v cs long digits value is code =
    let whole = whole_code (digits_value 16 0 (take n cs)) (sym (ap is_character value) ∙ is) in
    let len : length (take n cs) ≡ n = length-take-le n cs long in
    let code_is : digits_value 16 0 (take n cs) ≡ c = sym (code ∙ value ∙ whole) in
    let here : is_character c ≡ true = ap is_character code ∙ is in
    let same : eqb (length (take n cs)) n ≡ true = grind (arith, nat_tests) in
    rw (same, ← digits, code_is, here) refl

-- so many octal digits are below this number
room : ℕ → ℕ
room zero = 1
room (suc k) = 8 * room k

some_room : (k : ℕ) → 1 ≤ room k
unfolding room
some_room zero = omega arith
some_room (suc k) = let h = some_room k in omega (arith, h)

next_small : (n c : ℕ) → is_digit_of 8 c ≡ true → cond (eqb c 95) n (n * 8 + digit_value c) + 1 ≤ (n + 1) * 8
next_small n c is = go (eqb c 95)
  where
    go : (b : Bool) → cond b n (n * 8 + digit_value c) + 1 ≤ (n + 1) * 8
    go true = omega arith
    go false = let small = ltb-true (digit_value c) 8 is in omega (arith, small)

value_small : (k n : ℕ) (cs : List ℕ) → digits_value 8 n (take (prefix_len (is_digit_of 8) (take k cs)) cs) + 1 ≤ (n + 1) * room k
unfolding digits_value room
value_small zero n cs = omega arith
value_small (suc k) n [] = let h = some_room k in let m = mul-le-mul_left (n + 1) h in omega (arith, m)
value_small (suc k) n (c ∷ cs) = go (value_small k (cond (eqb c 95) n (n * 8 + digit_value c)) cs) (is_digit_of 8 c) refl
  where
    go : digits_value 8 (cond (eqb c 95) n (n * 8 + digit_value c)) (take (prefix_len (is_digit_of 8) (take k cs)) cs) + 1 ≤ (cond (eqb c 95) n (n * 8 + digit_value c) + 1) * room k
        → (b : Bool) → is_digit_of 8 c ≡ b → digits_value 8 n (take (cond b (1 + prefix_len (is_digit_of 8) (take k cs)) 0) (c ∷ cs)) + 1 ≤ (n + 1) * (8 * room k)
    go r true is =
        let e : 1 + prefix_len (is_digit_of 8) (take k cs) ≡ suc (prefix_len (is_digit_of 8) (take k cs)) = omega arith in
        let m = mul-le-mul_left (room k) (next_small n c is) in
        rw e (omega (arith, r, m))
    go r false is = let h = some_room k in let m = mul-le-mul_left (n + 1) h in omega (arith, m)

octal_low : (cs : List ℕ) → digits_value 8 0 (take (octal_len cs) cs) < 512
unfolding room
octal_low cs = let small = value_small 3 0 cs in omega (arith, small)

low_character : (n : ℕ) → n < 512 → is_character n ≡ true
low_character n low = grind (arith, nat_tests)

pub octal_found : (line c n v : ℕ) (cs : List ℕ) → n ≡ octal_len cs → v ≡ min (digits_value 8 0 (take n cs)) (2 ^ 63) → c ≡ v → holds (c ∷ []) n line ≡ octal_item line cs
unfolding octal_item
octal_found line c n v cs len value code =
    let low = octal_low cs in
    let same : digits_value 8 0 (take (octal_len cs) cs) ≡ c = sym (code ∙ value ∙ ap (λ k. min (digits_value 8 0 (take k cs)) (2 ^ 63)) len ∙ omega (arith, low)) in
    rw (len, same) refl

pub octal_fits : (n v : ℕ) (cs : List ℕ) → n ≡ octal_len cs → v ≡ min (digits_value 8 0 (take n cs)) (2 ^ 63) → is_character v ≡ true
octal_fits n v cs len value = let low = octal_low cs in low_character v (let e = value ∙ ap (λ k. min (digits_value 8 0 (take k cs)) (2 ^ 63)) len in omega (arith, low, e))
