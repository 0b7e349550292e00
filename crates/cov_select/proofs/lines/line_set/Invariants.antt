use Rattle.std.proofs.Common.{◌≡◌, ◌||◌, drop}
use Rattle.cov_select.specs.Selected.{has_line, is_changed}
use Rattle.cov_suite.specs.Rows.{Line}
use Rattle.cov_select.proofs.lines.line_set.Given as goal

abbrev pub invariant-loop-lines : goal.invariant-loop-lines
invariant-loop-lines l = (q : Line) → (has_line l.set q || is_changed (drop l.lines-index l.changed) q) ≡ is_changed l.changed q
