use Rattle.std.proofs.Common.{◌≡◌, ◌++◌, drop, string_bytes}
use Rattle.cov_step.specs.Listing.{arc_lines}
use Rattle.cov_runs.proofs.listing.arc_lines.Given as goal

abbrev pub invariant-loop-arc : goal.invariant-loop-arc
invariant-loop-arc l = string_bytes l.text ++ arc_lines l.path (drop l.arc-index l.arcs) ≡ arc_lines l.path l.arcs
