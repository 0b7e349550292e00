-- What the code of a comparison holds.
--     lines_of, AddsLines    changed lines, and further ones
--     Skips                  what is left of a part is left out
--     Turns                  where a comparison goes on after a piece of the old text
use Rattle.std.specs.Prelude.{◌≡◌, ℕ, ◌≤◌, List, ◌++◌, length, drop}
use Rattle.py_changes.specs.Changed.{Lines, also}
use Rattle.cov_pieces.specs.declared.piece.Piece.{Piece as PieceNode}
use Rattle.cov_pieces.specs.Pieces.{Piece}
use Rattle.cov_pieces.specs.Views.{pieces_of}
use Rattle.cov_changed.specs.declared.changes.Changes.{Changes}
use Rattle.cov_changed.specs.declared.comparing.Left.{Left}
use Rattle.cov_changed.specs.Compared.{State, skipped}

-- the changed lines
abbrev pub lines_of : Changes → Lines
lines_of c = (c.before.items, c.after.items)

-- changed lines with further ones
abbrev pub AddsLines : Changes → Changes → Lines → Type 0
AddsLines before after lines = lines_of after ≡ also (lines_of before) lines

-- lines with the marks of what is left of a part, and what follows it
abbrev pub Skips : List ℕ → List ℕ → List Piece → List Piece → Type 0
Skips before after ps rest =
    (after ≡ before ++ (skipped 1 ps).0) × (rest ≡ (skipped 1 ps).1)

-- a comparison goes on as a state says, with its lines added
abbrev pub Turns : Changes → Changes → List PieceNode → State → Left → Type 0
Turns before after pieces s left =
    (AddsLines before after s.lines) × (left.depth ≡ s.depth)
    × (left.at ≤ length pieces) × (pieces_of (drop left.at pieces) ≡ s.rest)
