-- Small lists of tokens with the headers of `match` statements that their lines have.
use Rattle.std.proofs.Common.{◌≡◌, true, List, [], ◌∷◌, refl}
use Rattle.py_token.specs.declared.token.Keyword.TheVariants as word
use Rattle.py_token.specs.declared.token.Mark.TheVariants as mark
use Rattle.py_syntax.specs.Kinds.{Kind, Name, Word, Sign, Newline, Indent}
use Rattle.py_syntax.specs.Headers.{put, match_name, marked}

abbrev M : Kind
M = Name match_name

abbrev A : Kind
A = Name (97 ∷ [])

abbrev colon : Kind
colon = Sign mark.Colon

-- no line of the list is a header
abbrev Plain : List Kind → Type 0
Plain ks = marked ks ≡ put ks []

-- The first line is one.
abbrev Header : List Kind → Type 0
Header ks = marked (M ∷ ks) ≡ record { kind = M; header = true } ∷ put ks []

of_name : Header (A ∷ colon ∷ Newline ∷ Indent ∷ [])
of_name = refl

-- `match (a) [a]:` is one, and `match (a) [a:]` is none.
of_index : Header (Sign mark.LeftParen ∷ A ∷ Sign mark.RightParen ∷ Sign mark.LeftBracket ∷ A ∷ Sign mark.RightBracket ∷ colon ∷ Newline ∷ [])
of_index = refl

slice_line : Plain (M ∷ Sign mark.LeftParen ∷ A ∷ Sign mark.RightParen ∷ Sign mark.LeftBracket ∷ A ∷ colon ∷ Sign mark.RightBracket ∷ Newline ∷ [])
slice_line = refl

-- `match` alone, in front of a line that ends in a colon
alone : Plain (M ∷ Newline ∷ Word word.While ∷ A ∷ colon ∷ Newline ∷ Indent ∷ [])
alone = refl

-- with nothing in front of the colon
nothing_between : Plain (M ∷ colon ∷ Newline ∷ Indent ∷ [])
nothing_between = refl

-- after a semicolon, and after the header of another statement
after_semicolon : Plain (A ∷ Sign mark.Semicolon ∷ M ∷ A ∷ colon ∷ Newline ∷ [])
after_semicolon = refl

after_header : Plain (Word word.If ∷ A ∷ colon ∷ M ∷ A ∷ colon ∷ Newline ∷ [])
after_header = refl

-- a line with no end
cut_short : Plain (M ∷ A ∷ colon ∷ [])
cut_short = refl
