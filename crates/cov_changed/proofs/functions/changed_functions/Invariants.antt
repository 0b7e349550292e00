use Rattle.std.proofs.Common.{◌≡◌, drop, length, map}
use Rattle.py_changes.specs.Changed.{also, changed_functions}
use Rattle.cov_pieces.specs.Views.{plain_function}
use Rattle.cov_changed.specs.Views.{lines_of}
use Rattle.cov_changed.proofs.functions.changed_functions.Given as goal

abbrev pub invariant-loop-i : goal.invariant-loop-i
invariant-loop-i l = (length l.fs ≡ length l.gs) × (also (lines_of l.found) (changed_functions (map plain_function (drop l.i l.fs)) (map plain_function (drop l.i l.gs))) ≡ also (lines_of l.initial.found) (changed_functions (map plain_function l.fs) (map plain_function l.gs)))
