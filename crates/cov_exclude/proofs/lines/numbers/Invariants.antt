use Rattle.std.proofs.Common.{◌≡◌, ◌+◌, ◌++◌, drop}
use Rattle.cov_exclude.specs.Flags.{flagged_from}
use Rattle.cov_exclude.proofs.lines.numbers.Given as goal

abbrev pub invariant-loop-at : goal.invariant-loop-at
invariant-loop-at l = l.numbers.items ++ flagged_from (l.at + 1) (drop l.at l.flags) ≡ flagged_from 1 l.flags
