use Rattle.std.proofs.Common.{◌+◌, ◌≤◌, drop}
use Rattle.cov_pieces.specs.Views.{pieces_of}
use Rattle.cov_changed.proofs.Loops.{Skipping}
use Rattle.cov_changed.proofs.comparing.skip.Given as goal

abbrev pub invariant-loop-i : goal.invariant-loop-i
invariant-loop-i l = (l.depth ≤ l.i + 1) × Skipping l.initial.lines.items l.lines.items l.depth (pieces_of (drop l.i l.after)) (pieces_of (drop l.at l.after))
