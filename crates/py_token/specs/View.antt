-- From the tokens of the program to plain tokens.
use Rattle.std.specs.Prelude.{List, map}
use Rattle.py_token.specs.declared.token.Piece.{Piece, fold-Piece}
use Rattle.py_token.specs.declared.token.TokenKind.{TokenKind, fold-TokenKind}
use Rattle.py_token.specs.declared.token.Token.{Token, fold-Token}
use Rattle.py_token.specs.declared.token.Piece.TheOpen as open_
use Rattle.py_token.specs.Plain.{PKind, name, keyword, int, str, fstring, mark, newline, indent, dedent, end, PToken, token, token_row, PPiece, chars, field, piece_row}

-- one piece, with the plain views of its tokens in their places
abbrev pub piece_step : open_.Piece-F PPiece PKind PToken → PPiece
piece_step (open_.Chars text) = chars text
piece_step (open_.Field ts) = field (token_row ts.items)

-- one kind, with the plain views of its pieces in their places
abbrev pub kind_step : open_.TokenKind-F PPiece PKind PToken → PKind
kind_step (open_.Name text) = name text
kind_step (open_.Keyword word) = keyword word
kind_step (open_.Int value) = int value
kind_step (open_.Str text) = str text
kind_step (open_.FString ps) = fstring (piece_row ps.items)
kind_step (open_.Mark sign) = mark sign
kind_step open_.Newline = newline
kind_step open_.Indent = indent
kind_step open_.Dedent = dedent
kind_step open_.End = end

-- one token, with the plain view of its kind in its place
abbrev pub token_step : open_.Token-F PPiece PKind PToken → PToken
token_step t = token t.kind t.first t.last

-- a piece of an f-string
abbrev pub view_piece : Piece → PPiece
view_piece = fold-Piece PPiece PKind PToken piece_step kind_step token_step

-- what a token is
abbrev pub view_kind : TokenKind → PKind
view_kind = fold-TokenKind PPiece PKind PToken piece_step kind_step token_step

-- a token
abbrev pub view_token : Token → PToken
view_token = fold-Token PPiece PKind PToken piece_step kind_step token_step

-- tokens in a row
abbrev pub view_tokens : List Token → List PToken
view_tokens ts = map view_token ts

-- pieces in a row
abbrev pub view_pieces : List Piece → List PPiece
view_pieces ps = map view_piece ps
