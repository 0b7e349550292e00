use Rattle.std.proofs.Common.{◌≡◌, ◌≤◌, ◌∷◌, length}
use Rattle.std.specs.Str.{IsUtf8}
use Rattle.cov_step.specs.Names.{once}
use Rattle.cov_calls.proofs.names.after_slashes.Given as goal

abbrev pub invariant-slashes : goal.invariant-slashes
invariant-slashes l = (once (47 ∷ l.rest) ≡ once (47 ∷ l.fn.name)) × (length l.rest ≤ length l.fn.name) × IsUtf8 l.rest

abbrev pub decreases-slashes : goal.decreases-slashes
decreases-slashes l = length l.rest
