use Rattle.std.proofs.Common.{◌≡◌, length}
use Rattle.std.specs.Str.{IsUtf8}
use Rattle.cov_step.specs.Names.{bare}
use Rattle.cov_calls.proofs.names.bare.Given as goal

abbrev pub invariant-dots : goal.invariant-dots
invariant-dots l = (bare l.rest ≡ bare l.fn.name) × IsUtf8 l.rest

abbrev pub decreases-dots : goal.decreases-dots
decreases-dots l = length l.rest
