-- The form FILE:NAME of a value in settings and among the words of a command.
use Rattle.std.specs.Prelude.{ℕ, ◌==◌, Bool, ◌||◌, if◌then◌else◌, List, length, Option, Some, None}
use Rattle.std.specs.List.{before_last, after_last}

-- the bytes of a text
abbrev pub Text : Type 0
Text = List ℕ

-- whether a list has no element
abbrev pub is_empty : {A : Type 0} → List A → Bool
is_empty xs = length xs == 0

-- `:`
abbrev pub is_colon : ℕ → Bool
is_colon b = b == 58

-- what is before the last `:` and what is after it, where neither is empty
abbrev pub file_and_name : Text → Option (Text × Text)
file_and_name t =
    let file = before_last is_colon t in
    let name = after_last is_colon t in
    if is_empty file || is_empty name then None else Some (file, name)
