use Rattle.std.proofs.Common.{◌≡◌, ℕ, take}
use Rattle.std.specs.BTreeSet.{contains}
use Rattle.std.specs.Ordering.{nat_cmp}
use Rattle.cov_analysis.specs.Lines.{is_among}
use Rattle.cov_lcov.proofs.annotating.set_of.Given as goal

abbrev pub invariant-loop-line : goal.invariant-loop-line
invariant-loop-line l = (line : ℕ) → contains nat_cmp l.set line ≡ is_among (take l.line-index l.lines) line
