use Rattle.std.proofs.Common.{◌≡◌, ◌+◌, ◌≤◌, drop, length}
use Rattle.py_changes.specs.Changed.{also}
use Rattle.cov_pieces.specs.Views.{pieces_of}
use Rattle.cov_changed.specs.Compared.{compared}
use Rattle.cov_changed.specs.Views.{lines_of}
use Rattle.cov_changed.proofs.comparing.compare.Given as goal

abbrev pub invariant-loop-piece : goal.invariant-loop-piece
invariant-loop-piece l =
    (l.depth ≤ l.piece-index + 1) × (l.at ≤ length l.after)
    × (also (lines_of l.found) (compared l.depth (pieces_of (drop l.piece-index l.before)) (pieces_of (drop l.at l.after))) ≡ also (lines_of l.initial.found) (compared 0 (pieces_of l.before) (pieces_of l.after)))
