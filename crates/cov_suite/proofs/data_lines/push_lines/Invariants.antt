use Rattle.std.proofs.Common.{◌≡◌, ◌++◌, map, drop}
use Rattle.cov_suite.specs.Views.{line_of}
use Rattle.cov_suite.proofs.data_lines.push_lines.Given as goal

abbrev pub invariant-loop-number : goal.invariant-loop-number
invariant-loop-number l =
    map line_of l.lines.items ++ map (λ line. (l.path, line)) (drop l.number-index l.number-items)
    ≡ map line_of l.initial.lines.items ++ map (λ line. (l.path, line)) l.number-items
