use Rattle.std.proofs.Common.{◌≡◌, ◌+◌, length}
use Rattle.py_token.specs.Fields.{reach}
use Rattle.py_token.proofs.fields.reach.Given as goal

abbrev pub invariant-reached : goal.invariant-reached
invariant-reached l = reach l.opening.quote l.opening.triple l.rest + length l.chars ≡ reach l.opening.quote l.opening.triple l.chars + length l.rest

abbrev pub decreases-reached : goal.decreases-reached
decreases-reached l = length l.rest
