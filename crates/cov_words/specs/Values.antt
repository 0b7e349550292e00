-- Values of options and operands. Words are the bytes of their texts.
use Rattle.std.specs.Prelude.{ℕ, Bool, ◌&&◌, nat_le, if◌then◌else◌, List, length, Option, Some, None, option_map, option_and_then}
use Rattle.std.specs.List.{list_all}
use Rattle.std.specs.Str.Parse.{digits_value}
use Rattle.cov_file_names.specs.Forms.{file_and_name}

-- the bytes of a word
abbrev pub Word : Type 0
Word = List ℕ

-- what an option is given: nothing, a text, a number, or a file and a name
pub data Value : Type 0 where
  on : Value
  text : Word → Value
  number : ℕ → Value
  file_named : Word → Word → Value

-- what an option takes: nothing, any text, a number up to one, or FILE:NAME
pub data Form : Type 0 where
  no_value : Form
  any_text : Form
  up_to : ℕ → Form
  a_file_and_name : Form

-- a decimal digit
abbrev pub is_digit : ℕ → Bool
is_digit b = nat_le 48 b && nat_le b 57

-- 1 to 10 decimal digits
abbrev pub whole_number : Word → Option ℕ
whole_number w =
    if nat_le 1 (length w) && (nat_le (length w) 10 && list_all is_digit w)
    then Some (digits_value 10 w) else None

-- a number up to this one
abbrev pub within : ℕ → ℕ → Option ℕ
within most n = if nat_le n most then Some n else None

-- a whole number up to this one
abbrev pub number_up_to : ℕ → Word → Option ℕ
number_up_to most w = option_and_then (within most) (whole_number w)

-- what a word is as a value of a form
abbrev pub value_of : Form → Word → Option Value
value_of no_value w = None
value_of any_text w = Some (text w)
value_of (up_to most) w = option_map number (number_up_to most w)
value_of a_file_and_name w = option_map (λ p. file_named p.0 p.1) (file_and_name w)

-- the text, where the value is one
abbrev pub as_text : Value → Option Word
as_text on = None
as_text (text w) = Some w
as_text (number n) = None
as_text (file_named f n) = None

-- the number, where the value is one
abbrev pub as_number : Value → Option ℕ
as_number on = None
as_number (text w) = None
as_number (number n) = Some n
as_number (file_named f n) = None

-- the file and the name, where the value is these
abbrev pub as_file_named : Value → Option (Word × Word)
as_file_named on = None
as_file_named (text w) = None
as_file_named (number n) = None
as_file_named (file_named f n) = Some (f, n)
