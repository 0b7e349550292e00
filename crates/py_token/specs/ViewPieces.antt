-- F-strings as the code takes them (The Python Language Reference, "Formatted string literals").
use Rattle.std.specs.Prelude.{◌≡◌, ℕ, Bool, ◌&&◌, not, ◌==◌, List, [], ◌∷◌, ◌++◌, length, take, drop, Result, Ok, Err}
use Rattle.py_token.specs.declared.error.TokenError.{TokenError}
use Rattle.py_token.specs.declared.error.TokenError.TheVariants.{BadCharacter, NoMemory}
use Rattle.std.specs.Global.{Vec}
use Rattle.py_token.specs.declared.fstrings.FStringBody.{FStringBody}
use Rattle.py_token.specs.declared.strings.Opening.{Opening}
use Rattle.py_token.specs.declared.token.Piece.{Piece}
use Rattle.py_token.specs.Source.{begins}
use Rattle.py_token.specs.Plain.{PToken, PTokens, PPiece, chars, field}
use Rattle.py_token.specs.Strings.{◌>>=◌, StringItem, holds, fault, Body}
use Rattle.py_token.specs.Fields.{reach, limit_fault, field_tokens, field_item, fstring_item, fstring_body, normal, token_at}
use Rattle.py_token.specs.Rules.{Match}
use Rattle.py_token.specs.View.{view_pieces}
use Rattle.py_token.specs.ViewMatch.{tokens_of}

-- whether a `{` opens a field here
abbrev pub opens_field : ℕ → List ℕ → Bool
opens_field c cs = (c == 123) && not (begins 123 cs)

-- what stands at a place of an f-string that was opened so
abbrev pub piece_after : Opening → ℕ → ℕ → List ℕ → StringItem PPiece
piece_after o line c cs = fstring_item o.quote o.triple o.line line c cs

-- the tokens of a field, with these characters after its `{`, and how many of its reach are left
abbrev pub field_at : ℕ → Bool → ℕ → ℕ → List ℕ → Result (List PToken × ℕ) TokenError
field_at quote triple first line cs =
    tokens_of (field_tokens (limit_fault triple first line (drop (reach quote triple cs) cs))
    line 0 0 (take (reach quote triple cs) cs))

-- the same in an f-string that was opened so
abbrev pub field_after : Opening → ℕ → List ℕ → Result (List PToken × ℕ) TokenError
field_after o line cs = field_at o.quote o.triple o.line line cs

-- the pieces are the old ones and these
abbrev pub AppendsPieces : List PPiece → Vec Piece → Vec Piece → Type 0
AppendsPieces added old new = view_pieces new.items ≡ view_pieces old.items ++ added

-- the piece of characters that were held
abbrev pub ended : List ℕ → List PPiece
ended [] = []
ended (c ∷ cs) = chars (c ∷ cs) ∷ []

-- the item is a field, which is added after the characters that were held
abbrev pub PushesField : Result ℕ TokenError
    → StringItem PPiece → ℕ → List ℕ → List PPiece → List PPiece → Type 0
PushesField (Ok n) item line held old new =
    (ts : PTokens) × (item ≡ holds (field ts) n line)
    × (new ≡ old ++ (ended held ++ field ts ∷ []))
PushesField (Err NoMemory) item line held old new = Unit {0}
PushesField (Err e) item line held old new = item ≡ fault e

-- the same of a field with these characters after its `{`, and of the pieces of the code
abbrev pub AppendsField : Result ℕ TokenError
    → Opening → ℕ → List ℕ → List ℕ → Vec Piece → Vec Piece → Type 0
AppendsField answer o line cs held old new =
    PushesField answer (field_item o.quote o.triple o.line line cs) line held
    (view_pieces old.items) (view_pieces new.items)

-- the pieces of an f-string, how many characters are left after it, and the line where it ends
abbrev pub pieces_of : Result (Body PPiece) TokenError → Result (List PPiece × ℕ × ℕ) TokenError
pieces_of body = body >>= λ b. Ok (normal b.values, length b.rest, b.next)

-- the same of these characters after an opening
abbrev pub pieces_after : Opening → List ℕ → Result (List PPiece × ℕ × ℕ) TokenError
pieces_after o cs = pieces_of (fstring_body o.quote o.triple o.line cs)

-- the same of what the code answers
abbrev pub view_fstring : FStringBody → List PPiece × ℕ × ℕ
view_fstring b = (view_pieces b.pieces.items, b.left, b.next)

-- the token at the front of a text
abbrev pub token_at_of : ℕ → List ℕ → Result Match TokenError
token_at_of line [] = Err (BadCharacter line)
token_at_of line (c ∷ cs) = token_at line c cs
