use Rattle.std.proofs.Common.{◌≡◌, take}
use Rattle.cov_analysis.specs.Lines.{without}
use Rattle.cov_analysis.proofs.lines.without.Given as goal

abbrev pub invariant-loop-line : goal.invariant-loop-line
invariant-loop-line l = l.kept.items ≡ without (take l.line-index l.lines) l.others
