use Rattle.std.proofs.Common.{◌≡◌, ◌&&◌, ◌||◌, nat_eq, drop}
use Rattle.std.specs.List.{list_any}
use Rattle.std.specs.Prelude.{bytes_eq}
use Rattle.cov_select.specs.Selected.{has_line}
use Rattle.cov_suite.specs.Rows.{Line}
use Rattle.cov_select.proofs.lines.add_lines.Given as goal

abbrev pub invariant-loop-line : goal.invariant-loop-line
invariant-loop-line l = (q : Line) → (has_line l.set q || list_any (λ n. bytes_eq q.0 l.path && nat_eq q.1 n) (drop l.line-index l.lines)) ≡ (has_line l.initial.set q || list_any (λ n. bytes_eq q.0 l.path && nat_eq q.1 n) l.lines)
