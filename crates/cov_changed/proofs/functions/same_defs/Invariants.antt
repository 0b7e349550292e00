use Rattle.std.proofs.Common.{◌≡◌, ◌&&◌, drop, length, map}
use Rattle.py_changes.specs.Changed.{same_defs}
use Rattle.cov_pieces.specs.Views.{plain_function}
use Rattle.cov_changed.proofs.functions.same_defs.Given as goal

abbrev pub invariant-loop-i : goal.invariant-loop-i
invariant-loop-i l = (length l.fs ≡ length l.gs) × ((l.all && same_defs (map plain_function (drop l.i l.fs)) (map plain_function (drop l.i l.gs))) ≡ same_defs (map plain_function l.fs) (map plain_function l.gs))
