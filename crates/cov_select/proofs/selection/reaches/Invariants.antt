use Rattle.std.proofs.Common.{◌≡◌, drop, map}
use Rattle.std.specs.List.{list_any}
use Rattle.cov_select.specs.Selected.{has_line}
use Rattle.cov_suite.specs.Views.{line_of}
use Rattle.cov_select.proofs.selection.reaches.Given as goal

abbrev pub invariant-loop-at : goal.invariant-loop-at
invariant-loop-at l = list_any (has_line l.lines) (map line_of (drop l.at-index l.reached)) ≡ list_any (has_line l.lines) (map line_of l.reached)
