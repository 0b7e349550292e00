use Rattle.std.proofs.Common.{ℕ, ◌<◌, ◌-◌, length, map}
use Rattle.py_code.specs.Units.{plain_unit}
use Rattle.py_run_tests.specs.Checked.{HasDepths}
use Rattle.py_run_tests.proofs.codes.all_have_depths.Given as goal

abbrev pub invariant-loop-number : goal.invariant-loop-number
invariant-loop-number l = (m : ℕ) → m < l.number → HasDepths (map plain_unit l.units) m

abbrev pub decreases-loop-number : goal.decreases-loop-number
decreases-loop-number l = length l.units - l.number
