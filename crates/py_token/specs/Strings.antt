-- Strings (The Python Language Reference, "String and Bytes literals").
--     ◌>>=◌                        what goes on where there is no fault
--     StringItem                   what stands at a place in a string
--     doubled, closes              quotes
--     escaped .. escape_item       escapes
--     raw_item, text_item          a place of a raw string and of any string
--     Body, body_of, text_body     a string after its opening marks
use Rattle.std.specs.Prelude.{ℕ, zero, suc, ◌+◌, Bool, false, ◌||◌, ◌&&◌, not, ◌==◌, nat_lt, List, [], ◌∷◌, length, take, drop, Option, Some, None, Result, Ok, Err, if◌then◌else◌}
use Rattle.std.specs.List.{list_all, prefix_len}
use Rattle.py_token.specs.declared.error.TokenError.{TokenError}
use Rattle.py_token.specs.declared.error.TokenError.TheVariants.{BadCharacter, OpenString}
use Rattle.py_token.specs.Source.{begins}
use Rattle.py_token.specs.Numbers.{digits_value, is_digit_of}

-- goes on with a value, and stops at a fault
infixl 10 ◌>>=◌
abbrev pub ◌>>=◌ : {A B : Type 0} → Result A TokenError → (A → Result B TokenError)
    → Result B TokenError
(Ok x) >>= f = f x
(Err e) >>= f = Err e

-- An item of a string is what stands at a place in it: something that the string holds, with the
-- number of characters after the first and the line after it; the closing marks; or a fault.
pub data StringItem (A : Type 0) : Type 0 where
  holds : (value : A) (after next : ℕ) → StringItem A
  closing : (after : ℕ) → StringItem A
  fault : (error : TokenError) → StringItem A

-- two more of a quote
abbrev pub doubled : ℕ → List ℕ → Bool
doubled quote [] = false
doubled quote (c ∷ cs) = (c == quote) && begins quote cs

-- the marks of a string stand here
abbrev pub closes : ℕ → Bool → ℕ → List ℕ → Bool
closes quote triple c cs = (c == quote) && (not triple || doubled quote cs)

-- the character that a letter or a mark after a backslash stands for
abbrev pub escaped : ℕ → Option ℕ
escaped c =
    if (c == 92) || (c == 39) || (c == 34) then Some c
    else (if c == 97 then Some 7
    else (if c == 98 then Some 8
    else (if c == 102 then Some 12
    else (if c == 110 then Some 10
    else (if c == 114 then Some 13
    else (if c == 116 then Some 9
    else (if c == 118 then Some 11
    else None)))))))

-- how many hexadecimal digits a letter after a backslash asks for
abbrev pub digits_asked : ℕ → Option ℕ
digits_asked c =
    if c == 120 then Some 2 else (if c == 117 then Some 4 else (if c == 85 then Some 8 else None))

-- whether a code point is a character: all are but the surrogates
abbrev pub is_character : ℕ → Bool
is_character n = nat_lt n 0xD800 || (nat_lt 0xDFFF n && nat_lt n 0x110000)

-- so many hexadecimal digits after the letter
unfoldable pub hex_item : ℕ → ℕ → List ℕ → StringItem (List ℕ)
hex_item line n cs =
    if (length (take n cs) == n) && list_all (is_digit_of 16) (take n cs)
    && is_character (digits_value 16 0 (take n cs))
    then holds (digits_value 16 0 (take n cs) ∷ []) (n + 1) line
    else fault (BadCharacter line)

-- one to three octal digits
abbrev pub octal_len : List ℕ → ℕ
octal_len cs = prefix_len (is_digit_of 8) (take 3 cs)

-- so many octal digits are one character
unfoldable pub octal_item : ℕ → List ℕ → StringItem (List ℕ)
octal_item line cs = holds (digits_value 8 0 (take (octal_len cs) cs) ∷ []) (octal_len cs) line

-- any other backslash stays as it is
abbrev pub other_item : ℕ → ℕ → StringItem (List ℕ)
other_item line d = if d == 78 then fault (BadCharacter line) else holds (92 ∷ []) 0 line

-- hexadecimal digits where a letter asks for them
abbrev pub hex_or : Option ℕ → ℕ → ℕ → List ℕ → StringItem (List ℕ)
hex_or (Some n) line d ds = hex_item line n ds
hex_or None line d ds = other_item line d

-- the character of an escape, or else digits
abbrev pub escaped_or : Option ℕ → ℕ → ℕ → List ℕ → StringItem (List ℕ)
escaped_or (Some c) line d ds = holds (c ∷ []) 1 line
escaped_or None line d ds =
    if is_digit_of 8 d then octal_item line (d ∷ ds) else hex_or (digits_asked d) line d ds

-- a backslash, with these characters after it
abbrev pub escape_item : ℕ → List ℕ → StringItem (List ℕ)
escape_item line [] = holds (92 ∷ []) 0 line
escape_item line (d ∷ ds) =
    if d == 10 then holds [] 1 (line + 1) else escaped_or (escaped d) line d ds

-- in a raw string a backslash and the character after it both stay
abbrev pub raw_item : ℕ → List ℕ → StringItem (List ℕ)
raw_item line [] = holds (92 ∷ []) 0 line
raw_item line (d ∷ ds) =
    if d == 10 then holds (92 ∷ 10 ∷ []) 1 (line + 1)
    else (if d == 13 then holds (92 ∷ []) 0 line
    else holds (92 ∷ d ∷ []) 1 line)

-- an item of a string that begins on the line `first`; a string in single marks ends on its line
unfoldable pub text_item : Bool → ℕ → Bool → ℕ → ℕ → ℕ → List ℕ → StringItem (List ℕ)
text_item raw quote triple first line c cs =
    if closes quote triple c cs then closing (if triple then 2 else 0)
    else (if c == 13 then fault (BadCharacter line)
    else (if c == 10
    then (if triple then holds (10 ∷ []) 0 (line + 1) else fault (OpenString first))
    else (if c == 92 then (if raw then raw_item line cs else escape_item line cs)
    else holds (c ∷ []) 0 line)))

-- what a string holds, the characters after its closing marks, and the line where it ends
pub record Body (A : Type 0) : Type 0 where
  pub values : List A
  pub rest : List ℕ
  pub next : ℕ

-- a string with one value more in front
abbrev pub more_of : {A : Type 0} → A → Result (Body A) TokenError → Result (Body A) TokenError
more_of x body = body >>= λ b. Ok (record b { values = x ∷ b.values })

-- how many of its characters stand after the first
abbrev pub after_of : {A : Type 0} → StringItem A → ℕ
after_of (holds x after next) = after
after_of (closing after) = after
after_of (fault e) = 0

-- the line after it
abbrev pub next_of : {A : Type 0} → StringItem A → ℕ → ℕ
next_of (holds x after next) line = next
next_of (closing after) line = line
next_of (fault e) line = line

-- an item, and then the others of the string
abbrev pub with_item : {A : Type 0} → StringItem A → ℕ → List ℕ → Result (Body A) TokenError
    → Result (Body A) TokenError
with_item (holds x after next) line cs body = more_of x body
with_item (closing after) line cs body =
    Ok (record { values = []; rest = drop after cs; next = line })
with_item (fault e) line cs body = Err e

-- The items of a string after its opening marks, up to the closing ones. The first characters are
-- passed over.
unfoldable pub body_of : {A : Type 0} → (ℕ → ℕ → List ℕ → StringItem A) → ℕ → ℕ → ℕ → List ℕ
    → Result (Body A) TokenError
body_of item first skip line [] = Err (OpenString first)
body_of item first (suc skip) line (c ∷ cs) = body_of item first skip line cs
body_of item first zero line (c ∷ cs) =
    with_item (item line c cs) line cs
    (body_of item first (after_of (item line c cs)) (next_of (item line c cs) line) cs)

-- a string after its opening marks
unfoldable pub text_body : Bool → ℕ → Bool → ℕ → List ℕ → Result (Body (List ℕ)) TokenError
text_body raw quote triple first cs = body_of (text_item raw quote triple first) first 0 first cs
