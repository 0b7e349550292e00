-- The plain view of a token, part by part.
use Rattle.std.proofs.Common.{◌≡◌, List, ℕ, rules}
use Rattle.py_token.specs.declared.token.Keyword as keywords
use Rattle.py_token.specs.declared.token.Token.{Token, out-Token, fold_out-Token, the_lemmas}
use Rattle.py_token.specs.declared.token.TokenKind.TheVariants.{Name, Keyword, FString}
use Rattle.py_token.specs.declared.token.Piece.TheVariants.{Field}
use Rattle.py_token.specs.declared.token.Piece.{Piece}
use Rattle.std.specs.Global.{Vec}
use Rattle.py_token.specs.Plain.{PKind, PToken, PPiece, name, keyword, token, fstring, piece_row, field, token_row}
use Rattle.py_token.specs.View.{piece_step, kind_step, token_step, view_token, view_kind, view_tokens, view_piece, view_pieces}

pub plain-token : (t : Token) → view_token t ≡ token (view_kind (out-Token t).kind) (out-Token t).first (out-Token t).last
plain-token t = fold_out-Token PPiece PKind PToken piece_step kind_step token_step t

pub plain-fstring : (ps : Vec Piece) → view_kind (FString ps) ≡ fstring (piece_row (view_pieces ps.items))
plain-fstring ps = search (rules, the_lemmas)

pub plain-field : (ts : Vec Token) → view_piece (Field ts) ≡ field (token_row (view_tokens ts.items))
plain-field ts = search (rules, the_lemmas)

pub plain-name : (text : List ℕ) → view_kind (Name text) ≡ name text
plain-name text = search (rules, the_lemmas)

pub plain-keyword : (word : keywords.Keyword) → view_kind (Keyword word) ≡ keyword word
plain-keyword word = search (rules, the_lemmas)
