use Rattle.std.proofs.Common.{ℕ, ◌<◌, ◌-◌, length}
use Rattle.py_code.specs.Units.{plain_unit}
use Rattle.py_run_tests.specs.Checked.{FitsIn}
use Rattle.py_run_tests.proofs.checked.all_fit.Given as goal

abbrev pub invariant-loop-place : goal.invariant-loop-place
invariant-loop-place l = (m : ℕ) → m < l.place → FitsIn (plain_unit l.unit) l.units l.depths m

abbrev pub decreases-loop-place : goal.decreases-loop-place
decreases-loop-place l = length l.unit.instrs.items - l.place
