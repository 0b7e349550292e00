use Rattle.std.proofs.Common.{◌≡◌, ◌+◌, ◌≤◌, length}
use Rattle.cov_run.specs.Reading.{line_ends}
use Rattle.cov_run.proofs.bytes.line_ends.Given as goal

abbrev pub invariant-ends : goal.invariant-ends
invariant-ends l = (l.count + line_ends l.rest ≡ line_ends l.bytes) × (l.count + length l.rest ≤ length l.bytes)

abbrev pub decreases-ends : goal.decreases-ends
decreases-ends l = length l.rest
