use Rattle.std.proofs.Common.{◌≡◌, ◌++◌, length}
use Rattle.py_token.specs.Source.{joined_ends}
use Rattle.py_token.proofs.source.joined_ends.Given as goal

abbrev pub invariant-ends : goal.invariant-ends
invariant-ends l = l.text.items ++ joined_ends l.rest ≡ joined_ends l.chars

abbrev pub decreases-ends : goal.decreases-ends
decreases-ends l = length l.rest
