-- What the code holds, as plain pieces.
--     plain_function, plain_piece, pieces_of     functions and pieces
--     is_mark, kept                              what an outline of marks alone keeps
--     Adds                                       an outline with further pieces
--     bound_end                                  a bound of a slice
--     led_pieces, first_pieces                   statements, of which the first may be a docstring
--     AddsFirst, in_fragments, in_parts          outlines that are written in a loop
--     Completes                                  what is written, and what is left to write
--     KeepsMarksAlone, Restores                  what is kept of pieces from now on
use Rattle.std.specs.Prelude.{◌≡◌, ℕ, Bool, true, false, ◌&&◌, if◌then◌else◌, List, [], ◌∷◌, ◌++◌, map, Option, Box}
use Rattle.std.specs.Global.{Global}
use Rattle.std.specs.Option.{option_map}
use Rattle.py_syntax.specs.declared.expr.Expr.{Expr}
use Rattle.py_syntax.specs.declared.expr.FormatPart.{FormatPart}
use Rattle.py_syntax.specs.declared.expr.Fragment.{Fragment}
use Rattle.py_syntax.specs.Functions.{Function, is_docstring, without_docstring}
use Rattle.py_syntax.specs.Tree.{Stmts, StmtKind}
use Rattle.py_syntax.specs.View.{opt_of, plain_expr, plain_fragments, plain_parts, plain_stmts}
use Rattle.cov_pieces.specs.declared.outline.Outline.{Outline}
use Rattle.cov_pieces.specs.declared.piece.Function.{Function as FunctionNode}
use Rattle.cov_pieces.specs.declared.piece.Piece.{Piece as PieceNode}
use Rattle.cov_pieces.specs.declared.piece.Piece.TheVariants as node
use Rattle.cov_pieces.specs.Pieces.{Piece, word, words, open_part, inside, close, mark, declared, defined, stmts_pieces, kind_pieces}
use Rattle.cov_pieces.specs.Words.{Word, a_number, an_int, a_text, assigned, a_row, opt_words, fragments_words, parts_words}

-- a function
abbrev pub plain_function : FunctionNode → Function
plain_function f =
    record { line = f.line; name = f.name.now; params = f.params.now; body = plain_stmts f.body.now }

-- a piece
abbrev pub plain_piece : PieceNode → Piece
plain_piece (node.Number n) = word (a_number n)
plain_piece (node.Int n) = word (an_int n.now)
plain_piece (node.Name x) = word (a_text x.now)
plain_piece (node.Assigned x) = word (assigned x.now)
plain_piece (node.Row b) = word (a_row (plain_stmts b.now))
plain_piece node.Open = open_part
plain_piece node.Inside = inside
plain_piece node.Close = close
plain_piece (node.Mark l) = mark l
plain_piece (node.Declared x) = declared x.now
plain_piece (node.Defined f) = defined (plain_function f)

-- pieces in a row
abbrev pub pieces_of : List PieceNode → List Piece
pieces_of = map plain_piece

-- whether a piece is a mark
abbrev pub is_mark : Piece → Bool
is_mark (word w) = false
is_mark open_part = false
is_mark inside = false
is_mark close = false
is_mark (mark l) = true
is_mark (declared x) = false
is_mark (defined f) = false

-- the marks alone, or all pieces
abbrev pub kept : Bool → List Piece → List Piece
kept false ps = ps
kept true [] = []
kept true (p ∷ ps) = if is_mark p then p ∷ kept true ps else kept true ps

-- An outline with further pieces, where there was memory for all. One of marks alone keeps no
-- others.
pub record Adds (before after : Outline) (ps : List Piece) : Type 0 where
  pub same : after.marks_alone ≡ before.marks_alone
  pub added : after.full ≡ false → (before.full ≡ false)
      × (pieces_of after.pieces.items ≡ pieces_of before.pieces.items ++ kept before.marks_alone ps)

-- a bound of a slice
abbrev pub bound_end : Option (Box Expr Global) → List Word
bound_end e = opt_words (opt_of (option_map (λ b. plain_expr b.value) e))

-- ---- statements

-- statements, of which the first may be a docstring
abbrev pub led_pieces : Bool → Stmts → List Piece
led_pieces true ss = stmts_pieces (without_docstring ss)
led_pieces false ss = stmts_pieces ss

-- a statement, of which there are no pieces where it leads a body as its docstring
abbrev pub first_pieces : Bool → ℕ → StmtKind → List Piece
first_pieces leads l k = if leads && is_docstring k then [] else kind_pieces l k

-- ---- outlines that are written in a loop

-- an outline with what an item adds, where it stands first
abbrev pub AddsFirst : {X : Type 0} → (List X → List Piece) → Outline → Outline → X → Type 0
AddsFirst {X = X} pieces before after x =
    (ps : List Piece) × (Adds before after ps) × ((xs : List X) → pieces (x ∷ xs) ≡ ps ++ pieces xs)

-- the pieces of an f-string
abbrev pub in_fragments : List Fragment → List Piece
in_fragments fs = words (fragments_words (plain_fragments fs))

-- the pieces of what stands in a part of an f-string
abbrev pub in_parts : List FormatPart → List Piece
in_parts ps = words (parts_words (plain_parts ps))

-- What was written and what is left to write is all.
pub record Completes (before now : Outline) (rest all : List Piece) : Type 0 where
  pub same : now.marks_alone ≡ before.marks_alone
  pub completed : now.full ≡ false → (before.full ≡ false)
      × (pieces_of now.pieces.items ++ kept before.marks_alone rest
      ≡ pieces_of before.pieces.items ++ kept before.marks_alone all)

-- nothing but marks is kept from now on; whether that was so before
abbrev pub KeepsMarksAlone : Outline → Outline → Bool → Type 0
KeepsMarksAlone before after alone =
    (alone ≡ before.marks_alone) × (after ≡ record before { marks_alone = true })

-- what was kept before is kept again
abbrev pub Restores : Outline → Outline → Bool → Type 0
Restores before after alone = after ≡ record before { marks_alone = alone }
