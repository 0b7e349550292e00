use Rattle.std.proofs.Common.{◌≡◌, take}
use Rattle.cov_data.specs.Numbits.{bytes_needed}
use Rattle.cov_data.proofs.numbits.bytes_needed.Given as goal

abbrev pub invariant-loop-line : goal.invariant-loop-line
invariant-loop-line l = l.most ≡ bytes_needed (take l.line-index l.lines)
