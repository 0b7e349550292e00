-- The lines of the tokens of a list as a source.
use Rattle.std.proofs.Common.{ℕ, zero, suc, List, [], ◌∷◌}
use Rattle.py_token.specs.Plain.{PToken, first_of, last_of}
use Rattle.py_parse.specs.Places.{Source}

-- the lines of the tokens at each place of a list
abbrev pub token_first : List PToken → ℕ → ℕ
token_first [] p = 0
token_first (t ∷ ts) zero = first_of t
token_first (t ∷ ts) (suc p) = token_first ts p

abbrev pub token_last : List PToken → ℕ → ℕ
token_last [] p = 0
token_last (t ∷ ts) zero = last_of t
token_last (t ∷ ts) (suc p) = token_last ts p

abbrev pub token_source : List PToken → Source
token_source ts = record { first = token_first ts; last = token_last ts }
