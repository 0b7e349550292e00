-- Tokens as plain data: texts are lists of characters, and lists of tokens and pieces are their
-- own.
use Rattle.std.specs.Prelude.{ℕ, List, [], ◌∷◌}
use Rattle.std.specs.Prelude.{ℤ}
use Rattle.py_token.specs.declared.token.Keyword.{Keyword}
use Rattle.py_token.specs.declared.token.Mark.{Mark}

mutual
  -- what a token is, with its spelling
  pub data PKind : Type 0 where
    name : (spelling : List ℕ) → PKind
    keyword : (word : Keyword) → PKind
    int : (value : ℤ) → PKind
    str : (characters : List ℕ) → PKind
    fstring : (ps : PPieces) → PKind
    mark : (sign : Mark) → PKind
    newline : PKind
    indent : PKind
    dedent : PKind
    end : PKind

  -- a token with its first and last line
  pub data PToken : Type 0 where
    token : (kind : PKind) (first last : ℕ) → PToken

  -- the tokens of a field
  pub data PTokens : Type 0 where
    no_tokens : PTokens
    tokens : (t : PToken) (ts : PTokens) → PTokens

  -- a piece of an f-string
  pub data PPiece : Type 0 where
    chars : (characters : List ℕ) → PPiece
    field : (ts : PTokens) → PPiece

  -- the pieces of an f-string
  pub data PPieces : Type 0 where
    no_pieces : PPieces
    pieces : (p : PPiece) (ps : PPieces) → PPieces

-- the first line of a token
abbrev pub first_of : PToken → ℕ
first_of (token kind first last) = first

-- the last line of a token
abbrev pub last_of : PToken → ℕ
last_of (token kind first last) = last

-- a list of tokens as the tokens of a field
abbrev pub token_row : List PToken → PTokens
token_row [] = no_tokens
token_row (t ∷ ts) = tokens t (token_row ts)

-- a list of pieces as those of an f-string
abbrev pub piece_row : List PPiece → PPieces
piece_row [] = no_pieces
piece_row (p ∷ ps) = pieces p (piece_row ps)
