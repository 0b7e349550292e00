use Rattle.std.proofs.Common.{◌≡◌, ◌++◌, length, string_bytes}
use Rattle.std.specs.Str.{IsUtf8}
use Rattle.cov_step.specs.Names.{once}
use Rattle.cov_calls.proofs.names.once.Given as goal

abbrev pub invariant-slashes : goal.invariant-slashes
invariant-slashes l = (string_bytes l.taken ++ once l.rest ≡ once l.fn.name) × IsUtf8 l.rest

abbrev pub decreases-slashes : goal.decreases-slashes
decreases-slashes l = length l.rest
