-- Fields without the f-strings that stand in them, which are asked on their own (The Python
-- Language Reference, "Formatted string literals").
--     plain_pieces .. field_tree     tokens and pieces of the program as plain ones
--     waiting_of .. each_spelled     the f-strings that wait
--     weight .. load                 how many there are to ask
--     Waits .. AsksPieces            what is told, but for those that wait
--     FieldSoFar, PiecesSoFar        the same in the midst of a field or an f-string
use Rattle.std.specs.Prelude.{◌≡◌, ℕ, ◌+◌, ◌≤◌, ◌<◌, Bool, true, ◌&&◌, List, [], ◌∷◌, ◌++◌, map, Option, is_some}
use Rattle.std.specs.Borrow.{Bor}
use Rattle.std.specs.Global.{Vec}
use Rattle.py_token.specs.declared.token.Piece.{Piece}
use Rattle.py_token.specs.declared.token.Token.{Token}
use Rattle.py_token.specs.declared.token.TokenKind.{TokenKind}
use Rattle.py_token.specs.Plain.{token_row, piece_row}
use Rattle.py_token.specs.View.{view_kind, view_tokens, view_pieces}
use Rattle.py_syntax.specs.Tree.{Expr, no_parts}
use Rattle.py_syntax.specs.Kinds.{Kind, FString, Pieces, no_pieces, chars_piece, field_piece, Kinds, no_kinds, kinds, bare_kind, bare_tokens, bare_pieces}
use Rattle.py_parse_fields.specs.declared.token_classes.TokenClass as code_class
use Rattle.py_grammar.specs.TokenClasses.{TokenClass, t_format}
use Rattle.py_grammar.specs.Machine.{State, any, start, class, parts, field_expr}
use Rattle.py_parse_fields.specs.Frames.{bare_class, view_class}

-- the pieces of an f-string
abbrev pub plain_pieces : List Piece → Pieces
plain_pieces ps = bare_pieces (piece_row (view_pieces ps))

-- the tokens of a field
abbrev pub plain_tokens : List Token → Kinds
plain_tokens ts = bare_tokens (token_row (view_tokens ts))

-- the tree of a field that has these tokens, where it has one
abbrev pub field_tree : List Token → Option Expr
field_tree ts = field_expr (start any) (plain_tokens ts)

-- the f-strings whose fields wait
abbrev pub waiting_of : List (Bor (List Piece)) → List Pieces
waiting_of ws = map (λ w. plain_pieces w.now) ws

-- the class of a token where the fields of an f-string count as spelled
abbrev pub shallow : Kind → TokenClass
shallow (FString ps) = t_format no_parts
shallow t = class t

-- the f-string that a token is, where it is one
abbrev pub formats : Kind → List Pieces
formats (FString ps) = ps ∷ []
formats t = []

-- whether the fields of each f-string are expressions
abbrev pub each_spelled : List Pieces → Bool
each_spelled [] = true
each_spelled (ps ∷ rest) = is_some (parts ps) && each_spelled rest

-- how many f-strings there are to ask
abbrev mutual
  pub weight : Pieces → ℕ
  weight no_pieces = 1
  weight (chars_piece x ps) = weight ps
  weight (field_piece ks ps) = field_weight ks + weight ps

  -- of a field
  pub field_weight : Kinds → ℕ
  field_weight no_kinds = 0
  field_weight (kinds t ts) = kind_weight t + field_weight ts

  -- of a token
  pub kind_weight : Kind → ℕ
  kind_weight (FString ps) = weight ps
  kind_weight t = 0

-- of f-strings that wait
abbrev pub load : List Pieces → ℕ
load [] = 0
load (ps ∷ rest) = weight ps + load rest

-- A token, where an f-string waits.
abbrev pub Waits : Kind → code_class.TokenClass → List Pieces → List Pieces → Type 0
Waits t c old new = (bare_class (shallow t) ≡ view_class c) × (new ≡ old ++ formats t)

-- the same of a token of the program
abbrev pub WaitsFor : TokenKind → Vec (Bor (List Piece)) → Vec (Bor (List Piece))
    → code_class.TokenClass → Type 0
WaitsFor t old new c =
    Waits (bare_kind (view_kind t)) c (waiting_of old.items) (waiting_of new.items)

-- What is told of something, but for the f-strings that wait.
pub record Asks (all told : Bool) (bound : ℕ) (old new : List Pieces) : Type 0 where
  pub added : List Pieces
  pub waits : new ≡ old ++ added
  pub is : all ≡ (told && each_spelled added)
  pub few : load added < bound

-- The same of a field.
abbrev pub AsksField : List Token → Vec (Bor (List Piece)) → Vec (Bor (List Piece)) → Bool → Type 0
AsksField ts old new told =
    Asks (is_some (field_tree ts)) told (field_weight (plain_tokens ts) + 1)
    (waiting_of old.items) (waiting_of new.items)

-- The same of the pieces of an f-string.
abbrev pub AsksPieces : List Piece → Vec (Bor (List Piece)) → Vec (Bor (List Piece)) → Bool → Type 0
AsksPieces ps old new told =
    Asks (is_some (parts (plain_pieces ps))) told (weight (plain_pieces ps))
    (waiting_of old.items) (waiting_of new.items)

-- The same in front of some tokens of a field.
pub record FieldSoFar (all : Bool) (bound : ℕ) (old new : List Pieces) (s : State)
    (ks : Kinds) : Type 0 where
  pub added : List Pieces
  pub waits : new ≡ old ++ added
  pub is : all ≡ (is_some (field_expr s ks) && each_spelled added)
  pub few : load added + field_weight ks < bound

-- The same in front of some pieces.
pub record PiecesSoFar (all : Bool) (bound : ℕ) (old new : List Pieces) (ps : Pieces) : Type 0 where
  pub added : List Pieces
  pub waits : new ≡ old ++ added
  pub is : all ≡ (is_some (parts ps) && each_spelled added)
  pub few : load added + weight ps ≤ bound
