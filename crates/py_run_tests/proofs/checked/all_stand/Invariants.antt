use Rattle.std.proofs.Common.{ℕ, ◌<◌, ◌-◌, length}
use Rattle.py_code.specs.Units.{plain_unit}
use Rattle.py_run_tests.specs.Checked.{StandsIn}
use Rattle.py_run_tests.proofs.checked.all_stand.Given as goal

abbrev pub invariant-loop-number : goal.invariant-loop-number
invariant-loop-number l = (m : ℕ) → m < l.number → StandsIn (plain_unit l.unit) l.depths m

abbrev pub decreases-loop-number : goal.decreases-loop-number
decreases-loop-number l = length l.unit.handlers.items - l.number
