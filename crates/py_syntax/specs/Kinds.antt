-- Kinds of tokens with their spellings, and without lines: what a tree is written down in.
use Rattle.std.specs.Prelude.{ℤ, List, [], ◌∷◌, map}
use Rattle.py_token.specs.declared.token.Keyword.{Keyword}
use Rattle.py_token.specs.declared.token.Mark.{Mark}
use Rattle.py_token.specs.Plain as token_
use Rattle.py_token.specs.Plain.{PKind, PToken, PTokens, PPiece, PPieces}
use Rattle.py_syntax.specs.Tree.{Text}

mutual
  -- what a token is, with its spelling
  pub data Kind : Type 0 where
    Name : (x : Text) → Kind
    Word : (w : Keyword) → Kind
    Int : (n : ℤ) → Kind
    Str : (x : Text) → Kind
    FString : (ps : Pieces) → Kind
    Sign : (m : Mark) → Kind
    Newline : Kind
    Indent : Kind
    Dedent : Kind
    End : Kind

  -- the pieces of an f-string: characters, and fields with their tokens
  pub data Pieces : Type 0 where
    no_pieces : Pieces
    chars_piece : (x : Text) (rest : Pieces) → Pieces
    field_piece : (ks : Kinds) (rest : Pieces) → Pieces

  -- the tokens of a field
  pub data Kinds : Type 0 where
    no_kinds : Kinds
    kinds : (k : Kind) (ks : Kinds) → Kinds

-- a list of kinds as those of a field
abbrev pub kinds_of : List Kind → Kinds
kinds_of [] = no_kinds
kinds_of (k ∷ ks) = kinds k (kinds_of ks)

-- Tokens without their lines.
abbrev mutual
  -- what a token is
  pub bare_kind : PKind → Kind
  bare_kind (token_.name x) = Name x
  bare_kind (token_.keyword w) = Word w
  bare_kind (token_.int n) = Int n
  bare_kind (token_.str x) = Str x
  bare_kind (token_.fstring ps) = FString (bare_pieces ps)
  bare_kind (token_.mark m) = Sign m
  bare_kind token_.newline = Newline
  bare_kind token_.indent = Indent
  bare_kind token_.dedent = Dedent
  bare_kind token_.end = End

  -- a token
  pub bare_token : PToken → Kind
  bare_token (token_.token k first last) = bare_kind k

  -- the pieces of an f-string
  pub bare_pieces : PPieces → Pieces
  bare_pieces token_.no_pieces = no_pieces
  bare_pieces (token_.pieces (token_.chars x) ps) = chars_piece x (bare_pieces ps)
  bare_pieces (token_.pieces (token_.field ts) ps) = field_piece (bare_tokens ts) (bare_pieces ps)

  -- the tokens of a field
  pub bare_tokens : PTokens → Kinds
  bare_tokens token_.no_tokens = no_kinds
  bare_tokens (token_.tokens t ts) = kinds (bare_token t) (bare_tokens ts)

-- the kinds of a list of tokens
abbrev pub bare : List PToken → List Kind
bare = map bare_token
