-- Whole numbers (The Python Language Reference, "Integer literals").
use Rattle.std.specs.Prelude.{ℕ, ◌+◌, ◌*◌, ◌^◌, Bool, true, false, ◌||◌, ◌&&◌, not, ◌==◌, nat_lt, List, [], ◌∷◌, Option, Some, None, Result, Ok, Err, pos, if◌then◌else◌}
use Rattle.std.specs.Char.{digit_value}
use Rattle.py_token.specs.declared.error.TokenError.{TokenError}
use Rattle.py_token.specs.declared.error.TokenError.TheVariants.{BadCharacter, WideNumber}
use Rattle.py_token.specs.Plain.{PKind, int}
use Rattle.py_token.specs.Words.{in_name}

-- what stands in a number or directly after one
abbrev pub in_number : ℕ → Bool
in_number c = in_name c || (c == 46)

-- whether a character is a digit of a base
abbrev pub is_digit_of : ℕ → ℕ → Bool
is_digit_of base c = nat_lt (digit_value c) base

-- whether a digit stands in front
abbrev pub begins_digit : ℕ → List ℕ → Bool
begins_digit base [] = false
begins_digit base (c ∷ cs) = is_digit_of base c

-- a digit of a base, or an underscore with a digit directly after it
abbrev pub is_digit_here : ℕ → ℕ → List ℕ → Bool
is_digit_here base c cs = if c == 95 then begins_digit base cs else is_digit_of base c

-- whether all are digits, with single underscores between them
unfoldable pub are_digits : ℕ → List ℕ → Bool
are_digits base [] = true
are_digits base (c ∷ cs) = is_digit_here base c cs && are_digits base cs

-- the value of the digits, with n before them
unfoldable pub digits_value : ℕ → ℕ → List ℕ → ℕ
digits_value base n [] = n
digits_value base n (c ∷ cs) =
    digits_value base (if c == 95 then n else n * base + digit_value c) cs

-- whether there is nothing
abbrev pub is_empty : List ℕ → Bool
is_empty [] = true
is_empty (c ∷ cs) = false

-- the digits after a prefix
abbrev pub prefixed : ℕ → List ℕ → Option ℕ
prefixed base ds =
    if not (is_empty ds) && are_digits base ds then Some (digits_value base 0 ds) else None

-- a decimal number that begins with 0 has only zeros
abbrev pub decimal : ℕ → List ℕ → Option ℕ
decimal c cs =
    if are_digits 10 (c ∷ cs) && (not (c == 48) || (digits_value 10 0 (c ∷ cs) == 0))
    then Some (digits_value 10 0 (c ∷ cs))
    else None

-- the base that a letter after a 0 names
abbrev pub base_named : ℕ → Option ℕ
base_named c =
    if (c == 120) || (c == 88) then Some 16
    else (if (c == 111) || (c == 79) then Some 8
    else (if (c == 98) || (c == 66) then Some 2
    else None))

-- digits in the base that a letter names, or else decimal ones
abbrev pub in_base : Option ℕ → ℕ → ℕ → List ℕ → Option ℕ
in_base None c d cs = decimal c (d ∷ cs)
in_base (Some base) c d cs = prefixed base cs

-- the number that a word with a digit at its front spells, if it spells one
abbrev pub number_of : ℕ → List ℕ → Option ℕ
number_of c [] = decimal c []
number_of c (d ∷ cs) = in_base (if c == 48 then base_named d else None) c d cs

-- the number that a word spells
abbrev pub number_text : List ℕ → Option ℕ
number_text [] = None
number_text (c ∷ cs) = number_of c cs

-- a number is a token, or the fault of its line
abbrev pub kind_of_number : ℕ → Option ℕ → Result PKind TokenError
kind_of_number line None = Err (BadCharacter line)
kind_of_number line (Some n) = if nat_lt n (2 ^ 63) then Ok (int (pos n)) else Err (WideNumber line)
