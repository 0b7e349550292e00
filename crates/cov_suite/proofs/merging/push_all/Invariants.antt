use Rattle.std.proofs.Common.{◌≡◌, ◌++◌, map, drop}
use Rattle.cov_suite.specs.Views.{line_of}
use Rattle.cov_suite.proofs.merging.push_all.Given as goal

abbrev pub invariant-loop-line : goal.invariant-loop-line
invariant-loop-line l =
    map line_of l.lines.items ++ map line_of (drop l.line-index l.more)
    ≡ map line_of l.initial.lines.items ++ map line_of l.more
