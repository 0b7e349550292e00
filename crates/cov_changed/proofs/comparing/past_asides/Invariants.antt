use Rattle.std.proofs.Common.{◌≡◌, drop}
use Rattle.cov_pieces.specs.Views.{pieces_of}
use Rattle.cov_changed.specs.Compared.{past_asides}
use Rattle.cov_changed.proofs.comparing.past_asides.Given as goal

abbrev pub invariant-loop-i : goal.invariant-loop-i
invariant-loop-i l = past_asides (pieces_of (drop l.i l.after)) ≡ past_asides (pieces_of (drop l.at l.after))
