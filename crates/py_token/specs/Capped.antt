-- Numbers as the code holds them: one that is too large is the least such number.
use Rattle.std.specs.Prelude.{ℕ, ◌^◌, min, List, [], ◌∷◌, Option, Some, None}
use Rattle.py_token.specs.Numbers.{decimal}

-- the number, or the limit where it is above that
abbrev pub capped : Option ℕ → Option ℕ
capped None = None
capped (Some n) = Some (min n (2 ^ 63))

-- the number that decimal digits spell
abbrev pub decimal_text : List ℕ → Option ℕ
decimal_text [] = None
decimal_text (c ∷ cs) = decimal c cs
