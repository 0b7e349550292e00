-- Whole numbers of at most ten digits.
use Rattle.std.proofs.Common.{◌≡◌, ◌≤◌, ◌<◌, ℕ, zero, suc, ◌^◌, ◌==◌, Bool, true, false, ◌&&◌, nat_le, length, Option, Some, None, Result, Ok, refl, sym, ap, ◌∙◌, arith, lit<}
use Rattle.std.specs.List.{list_all}
use Rattle.std.specs.Result.{result_ok}
use Rattle.std.specs.Str.Parse.{digits_value, ParsesUnsigned}
use Rattle.std.proofs.lemmas.Bool.{leb-true}
use Rattle.std.proofs.lemmas.Bool.Decides.{nat_tests}
use Rattle.std.proofs.lemmas.Str.Parse.{IsDigitsTest, IsNumeralModel, numerals_by_value, parse_gives, digits_value_short}
use Rattle.cov_words.specs.Values.{Word, is_digit, whole_number}
use Rattle.cov_words.proofs.Choices.{first_true, second_true, both_true, cond_true}

abbrev AreDigits : Word → Type 0
AreDigits w = list_all is_digit w ≡ true

within : (a b : ℕ) → a ≤ b → nat_le a b ≡ true
within a b h = grind (arith, nat_tests)

tells : IsDigitsTest AreDigits
tells = record {
  empty = refl;
  parts = λ c cs e. let d = first_true (is_digit c) (list_all is_digit cs) e in ((leb-true 48 c (first_true (nat_le 48 c) (nat_le c 57) d), leb-true c 57 (second_true (nat_le 48 c) (nat_le c 57) d)), second_true (is_digit c) (list_all is_digit cs) e);
  more = λ c cs k e. both_true (is_digit c) (list_all is_digit cs) (both_true (nat_le 48 c) (nat_le c 57) (within 48 c k.0) (within c 57 k.1)) e;
}

model : IsNumeralModel AreDigits (digits_value 10)
model = numerals_by_value AreDigits tells

-- what `parse` gives of such digits
pub parsed : {E : Type 0} (w : Word) (r : Result ℕ E) → 1 ≤ length w → length w ≤ 10 → AreDigits w → ParsesUnsigned 64 10 w r → r ≡ Ok (digits_value 10 w)
parsed w r some short digits parses =
    let small : digits_value 10 w < 10 ^ 10 = digits_value_short model w 10 digits short in
    let big : 10 ^ 10 < 2 ^ 64 = lit< tt in
    parse_gives model 64 w r parses digits (omega (arith, some)) (omega (arith, small, big))

pub is_number : (w : Word) → 1 ≤ length w → length w ≤ 10 → AreDigits w → whole_number w ≡ Some (digits_value 10 w)
is_number w some short digits =
    cond_true (nat_le 1 (length w) && (nat_le (length w) 10 && list_all is_digit w)) (Some (digits_value 10 w)) None
    (both_true (nat_le 1 (length w)) (nat_le (length w) 10 && list_all is_digit w) (within 1 (length w) some) (both_true (nat_le (length w) 10) (list_all is_digit w) (within (length w) 10 short) digits))

not_empty : (n : ℕ) (b : Bool) → b ≡ (n == 0) → b ≡ false → 1 ≤ n
not_empty zero b e h = cc
not_empty (suc n) b e h = omega arith

-- a word that isn't empty, of at most ten digits, and what `parse` gives of it
pub whole_number_is : {E : Type 0} (w : Word) (empty digits : Bool) (r : Result ℕ E) (o : Option ℕ) → empty ≡ (length w == 0) → empty ≡ false → length w ≤ 10 → digits ≡ list_all is_digit w → digits ≡ true → ParsesUnsigned 64 10 w r → o ≡ result_ok r → o ≡ whole_number w
whole_number_is w empty digits r o is no_empty short are known parses ok =
    let some = not_empty (length w) empty is no_empty in
    let all = sym are ∙ known in
    ok ∙ ap result_ok (parsed w r some short all parses) ∙ sym (is_number w some short all)
