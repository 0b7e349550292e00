use Rattle.std.proofs.Common.{◌≡◌}
use Rattle.std.specs.List.{filter, range_with_len}
use Rattle.cov_data.specs.Numbits.{has_line}
use Rattle.cov_data.proofs.numbits.lines_of_numbits.Given as goal

abbrev pub invariant-loop-n : goal.invariant-loop-n
invariant-loop-n l = l.lines.items ≡ filter (has_line l.bits) (range_with_len 0 l.n)
