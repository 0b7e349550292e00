use Rattle.std.proofs.Common.{◌≡◌, drop}
use Rattle.cov_suite.proofs.Adding.{files_more}
use Rattle.cov_suite.proofs.joining.add_data.Given as goal

abbrev pub invariant-loop-path : goal.invariant-loop-path
invariant-loop-path l = (files_more l.other l.both (drop l.path-index l.path-items) ≡ files_more l.other l.initial.both l.path-items) × (l.both.arcs ≡ l.other.arcs)
