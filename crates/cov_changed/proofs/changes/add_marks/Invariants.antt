use Rattle.std.proofs.Common.{◌≡◌, ◌++◌, drop}
use Rattle.cov_pieces.specs.Pieces.{picked, mark_of}
use Rattle.cov_pieces.specs.Views.{pieces_of}
use Rattle.cov_changed.proofs.changes.add_marks.Given as goal

abbrev pub invariant-loop-piece : goal.invariant-loop-piece
invariant-loop-piece l = l.lines.items ++ picked mark_of (pieces_of (drop l.piece-index l.pieces)) ≡ l.initial.lines.items ++ picked mark_of (pieces_of l.pieces)
