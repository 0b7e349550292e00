use Rattle.std.proofs.Common.{◌≡◌, ◌+◌, length, drop}
use Rattle.cov_config.specs.Rows.{any_at}
use Rattle.cov_config.specs.Omits.{fits}
use Rattle.cov_config.proofs.omits.fits.Given as goal

-- what is left of the pattern matches from a place that is reached
abbrev pub invariant-loop-character : goal.invariant-loop-character
invariant-loop-character l =
    (any_at l.row (fits (drop l.character-index l.wanted)) l.text ≡ fits l.wanted l.text) × (length l.row ≡ length l.text + 1)
