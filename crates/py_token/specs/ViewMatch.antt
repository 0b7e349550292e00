-- Tokens as the code takes them from the front of a text.
use Rattle.std.specs.Prelude.{ℕ, List, [], ◌∷◌, length, Result, Ok, Err}
use Rattle.py_token.specs.declared.error.TokenError.{TokenError}
use Rattle.py_token.specs.declared.error.TokenError.TheVariants.{BadCharacter}
use Rattle.py_token.specs.declared.plain.Match as code_match
use Rattle.py_token.specs.Rules.{Match, word_at, number_at, plain_token}
use Rattle.py_token.specs.declared.fields.BracketChange as code_change
use Rattle.py_token.specs.declared.fields.BracketChange.TheVariants as turns
use Rattle.py_token.specs.declared.fields.FieldBody.{FieldBody}
use Rattle.py_token.specs.Plain.{PToken}
use Rattle.py_token.specs.Strings.{◌>>=◌, Body}
use Rattle.py_token.specs.Fields.{BracketChange, opening, shutting, neither, field_token}
use Rattle.py_token.specs.View.{view_kind, view_tokens}

-- a token that was taken
abbrev pub view_match : code_match.Match → Match
view_match t = record { kind = view_kind t.kind; after = t.after; next = t.next }

-- the word at the front
abbrev pub word_text : ℕ → List ℕ → Result Match TokenError
word_text line [] = Err (BadCharacter line)
word_text line (c ∷ cs) = word_at line c cs

-- the number at the front
abbrev pub number_text_at : ℕ → List ℕ → Result Match TokenError
number_text_at line [] = Err (BadCharacter line)
number_text_at line (c ∷ cs) = number_at line c cs

-- the longest token at the front
abbrev pub plain_token_of : ℕ → List ℕ → Result Match TokenError
plain_token_of line [] = Err (BadCharacter line)
plain_token_of line (c ∷ cs) = plain_token line c cs

-- the token at the front of a field
abbrev pub field_token_of : ℕ → List ℕ → Result Match TokenError
field_token_of line [] = Err (BadCharacter line)
field_token_of line (c ∷ cs) = field_token line c cs

-- what a token does to the brackets
abbrev pub view_change : code_change.BracketChange → BracketChange
view_change turns.Opening = opening
view_change turns.Shutting = shutting
view_change turns.Neither = neither

-- the tokens of a field, and how many characters are left after its `}`
abbrev pub tokens_of : Result (Body PToken) TokenError → Result (List PToken × ℕ) TokenError
tokens_of body = body >>= λ b. Ok (b.values, length b.rest)

-- the same of what the code answers
abbrev pub view_field : FieldBody → List PToken × ℕ
view_field f = (view_tokens f.tokens.items, f.left)
