-- The lines that tokens keep, in texts of at most 65,535 lines.
use Rattle.std.specs.Prelude.{◌≤◌, List, [], ◌∷◌}
use Rattle.py_token.specs.Source.{most_lines}
use Rattle.py_token.specs.Plain.{PKind, name, keyword, int, str, fstring, mark, newline, indent, dedent, end, PToken, token, PTokens, no_tokens, tokens, PPiece, chars, field, PPieces, no_pieces, pieces}

abbrev mutual
  -- the tokens in the fields of an f-string keep lines too
  pub IsKindOnLines : PKind → Type 0
  IsKindOnLines (name text) = Unit {0}
  IsKindOnLines (keyword k) = Unit {0}
  IsKindOnLines (int n) = Unit {0}
  IsKindOnLines (str text) = Unit {0}
  IsKindOnLines (fstring ps) = ArePiecesOnLines ps
  IsKindOnLines (mark m) = Unit {0}
  IsKindOnLines newline = Unit {0}
  IsKindOnLines indent = Unit {0}
  IsKindOnLines dedent = Unit {0}
  IsKindOnLines end = Unit {0}

  -- a token keeps lines from 1 to 65,535, its first no later than its last
  pub IsOnLines : PToken → Type 0
  IsOnLines (token kind first last) =
      (1 ≤ first) × (first ≤ last) × (last ≤ most_lines) × IsKindOnLines kind

  -- the tokens of a field keep lines
  pub AreRowOnLines : PTokens → Type 0
  AreRowOnLines no_tokens = Unit {0}
  AreRowOnLines (tokens t ts) = IsOnLines t × AreRowOnLines ts

  -- the tokens of a piece keep lines
  pub IsPieceOnLines : PPiece → Type 0
  IsPieceOnLines (chars text) = Unit {0}
  IsPieceOnLines (field ts) = AreRowOnLines ts

  -- the tokens of the pieces of an f-string keep lines
  pub ArePiecesOnLines : PPieces → Type 0
  ArePiecesOnLines no_pieces = Unit {0}
  ArePiecesOnLines (pieces p ps) = IsPieceOnLines p × ArePiecesOnLines ps

-- each token's lines are from 1 to 65,535, its first no later than its last
abbrev pub AreOnLines : List PToken → Type 0
AreOnLines [] = Unit {0}
AreOnLines (t ∷ ts) = IsOnLines t × AreOnLines ts
