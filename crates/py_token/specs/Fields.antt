-- F-strings (The Python Language Reference, "Formatted string literals").
--     is_blank, is_format_prefix          characters
--     may_stand, reach .. field_fault     how far a field can go, and what is wrong at that end
--     BracketChange .. depth_after        the brackets that are open in a field
--     field_token .. field_tokens         the tokens of a field
--     field_of .. fstring_item            a place of an f-string
--     fstring_body .. fstring_at          an f-string
--     token_at                            a token of a text
use Rattle.std.specs.Prelude.{ℕ, zero, suc, ◌-◌, Bool, true, false, ◌||◌, ◌&&◌, not, ◌==◌, List, [], ◌∷◌, ◌++◌, length, take, drop, Result, Ok, Err, if◌then◌else◌}
use Rattle.py_token.specs.declared.error.TokenError.{TokenError}
use Rattle.py_token.specs.declared.error.TokenError.TheVariants.{BadCharacter, OpenString}
use Rattle.py_token.specs.declared.token.Mark.{Mark}
use Rattle.py_token.specs.declared.token.Mark.TheVariants as marks
use Rattle.py_token.specs.Source.{begins}
use Rattle.py_token.specs.Plain.{PKind, mark, fstring, PToken, token, token_row, PPiece, chars, field, piece_row}
use Rattle.py_token.specs.Strings.{◌>>=◌, StringItem, holds, closing, fault, doubled, closes, text_item, Body, more_of, body_of}
use Rattle.py_token.specs.Rules.{Match, begins_quote, plain_token, after_prefix}

-- a space or a tab
abbrev pub is_blank : ℕ → Bool
is_blank c = (c == 32) || (c == 9)

-- `f` or `F`
abbrev pub is_format_prefix : ℕ → Bool
is_format_prefix c = (c == 102) || (c == 70)

-- Whether a character may stand in a field at all: no backslash, no comment, no line end, and not
-- the marks of the f-string itself
abbrev pub may_stand : ℕ → Bool → ℕ → List ℕ → Bool
may_stand quote triple c cs =
    not ((c == 92) || (c == 35) || (c == 10) || (c == 13) || closes quote triple c cs)

-- how many characters stand before the first that may not
unfoldable pub reach : ℕ → Bool → List ℕ → ℕ
reach quote triple [] = 0
reach quote triple (c ∷ cs) = if may_stand quote triple c cs then suc (reach quote triple cs) else 0

-- what is wrong with a field that meets the end of its reach
abbrev pub limit_fault : Bool → ℕ → ℕ → List ℕ → TokenError
limit_fault triple first line [] = OpenString first
limit_fault triple first line (c ∷ cs) =
    if (c == 10) && not triple then OpenString first else BadCharacter line

-- a string that is still open there is no other fault
abbrev pub field_fault : TokenError → TokenError → TokenError
field_fault limit (OpenString line) = limit
field_fault limit e = e

-- a token opens a bracket, shuts one, or neither
pub data BracketChange : Type 0 where
  opening : BracketChange
  shutting : BracketChange
  neither : BracketChange

-- what a mark does to the brackets that are open
abbrev pub change_of_mark : Mark → BracketChange
change_of_mark marks.LeftParen = opening
change_of_mark marks.LeftBracket = opening
change_of_mark marks.LeftBrace = opening
change_of_mark marks.RightParen = shutting
change_of_mark marks.RightBracket = shutting
change_of_mark marks.RightBrace = shutting
change_of_mark m = neither

-- what a token does to the brackets that are open
abbrev pub change_of : PKind → BracketChange
change_of (mark m) = change_of_mark m
change_of kind = neither

-- how many brackets are open after it
abbrev pub depth_after : BracketChange → ℕ → ℕ
depth_after opening depth = suc depth
depth_after shutting depth = depth - 1
depth_after neither depth = depth

-- the token at the front of a field, where no f-string can stand
abbrev pub field_token : ℕ → ℕ → List ℕ → Result Match TokenError
field_token line c cs =
    if is_format_prefix c && begins_quote cs then Err (BadCharacter line) else plain_token line c cs

-- how many of its characters stand after the first
abbrev pub after_match : Result Match TokenError → ℕ
after_match (Ok t) = t.after
after_match (Err e) = 0

-- what it does to the brackets that are open
abbrev pub change_of_match : Result Match TokenError → BracketChange
change_of_match (Ok t) = change_of t.kind
change_of_match (Err e) = neither

-- a token, and then the others of the field
abbrev pub with_match : TokenError → ℕ → Result Match TokenError
    → Result (Body PToken) TokenError → Result (Body PToken) TokenError
with_match limit line (Ok t) body = more_of (token t.kind line line) body
with_match limit line (Err e) body = Err (field_fault limit e)

-- The tokens of a field up to the first `}` with no bracket of the field open. The first characters
-- are passed over.
unfoldable pub field_tokens : TokenError → ℕ → ℕ → ℕ → List ℕ → Result (Body PToken) TokenError
field_tokens limit line skip depth [] = Err limit
field_tokens limit line (suc skip) depth (c ∷ cs) = field_tokens limit line skip depth cs
field_tokens limit line zero depth (c ∷ cs) =
    if (c == 125) && (depth == 0) then Ok (record { values = []; rest = cs; next = line })
    else (if is_blank c then field_tokens limit line 0 depth cs
    else with_match limit line (field_token line c cs)
    (field_tokens limit line (after_match (field_token line c cs))
    (depth_after (change_of_match (field_token line c cs)) depth) cs))

-- a field is one item of an f-string
abbrev pub field_of : ℕ → List ℕ → Result (Body PToken) TokenError → StringItem PPiece
field_of line cs (Ok b) = holds (field (token_row b.values)) (length cs - length b.rest) line
field_of line cs (Err e) = fault e

-- a field, with these characters after its `{`
unfoldable pub field_item : ℕ → Bool → ℕ → ℕ → List ℕ → StringItem PPiece
field_item quote triple first line cs =
    field_of line (take (reach quote triple cs) cs)
    (field_tokens (limit_fault triple first line (drop (reach quote triple cs) cs))
    line 0 0 (take (reach quote triple cs) cs))

-- the characters of a string as a piece
abbrev pub chars_item : StringItem (List ℕ) → StringItem PPiece
chars_item (holds xs after next) = holds (chars xs) after next
chars_item (closing after) = closing after
chars_item (fault e) = fault e

-- an item of an f-string that begins on the line `first`: two braces are one, and another `{` opens
-- a field
unfoldable pub fstring_item : ℕ → Bool → ℕ → ℕ → ℕ → List ℕ → StringItem PPiece
fstring_item quote triple first line c cs =
    if c == 123
    then (if begins 123 cs then holds (chars (123 ∷ [])) 1 line
    else field_item quote triple first line cs)
    else (if c == 125
    then (if begins 125 cs then holds (chars (125 ∷ [])) 1 line else fault (BadCharacter line))
    else chars_item (text_item false quote triple first line c cs))

-- an f-string after its opening marks
unfoldable pub fstring_body : ℕ → Bool → ℕ → List ℕ → Result (Body PPiece) TokenError
fstring_body quote triple first cs = body_of (fstring_item quote triple first) first 0 first cs

-- characters before pieces
abbrev pub with_chars : List ℕ → List PPiece → List PPiece
with_chars [] ps = ps
with_chars (x ∷ xs) [] = chars (x ∷ xs) ∷ []
with_chars (x ∷ xs) (chars ys ∷ ps) = chars ((x ∷ xs) ++ ys) ∷ ps
with_chars (x ∷ xs) (field ts ∷ ps) = chars (x ∷ xs) ∷ field ts ∷ ps

-- neighbouring characters are one piece, and none is empty
abbrev pub normal : List PPiece → List PPiece
normal [] = []
normal (chars xs ∷ ps) = with_chars xs (normal ps)
normal (field ts ∷ ps) = field ts ∷ normal ps

-- an f-string is one token
abbrev pub matched_pieces : List ℕ → Result (Body PPiece) TokenError → Result Match TokenError
matched_pieces cs body =
    body >>= λ b. Ok (record {
      kind = fstring (piece_row (normal b.values));
      after = length cs - length b.rest;
      next = b.next;
    })

-- an f-string, with these characters after its prefix
abbrev pub fstring_at : ℕ → List ℕ → Result Match TokenError
fstring_at line [] = Err (BadCharacter line)
fstring_at line (quote ∷ cs) =
    after_prefix (
    if doubled quote cs then matched_pieces cs (fstring_body quote true line (drop 2 cs))
    else matched_pieces cs (fstring_body quote false line cs))

-- a token of a text
unfoldable pub token_at : ℕ → ℕ → List ℕ → Result Match TokenError
token_at line c cs =
    if is_format_prefix c && begins_quote cs then fstring_at line cs else plain_token line c cs
