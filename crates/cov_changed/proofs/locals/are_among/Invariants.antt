use Rattle.std.proofs.Common.{◌≡◌, drop}
use Rattle.py_changes.specs.Changed.{are_among}
use Rattle.cov_changed.proofs.locals.are_among.Given as goal

abbrev pub invariant-loop-i : goal.invariant-loop-i
invariant-loop-i l = are_among (drop l.i l.names) l.others ≡ are_among l.names l.others
