use Rattle.std.proofs.Common.{ℕ, ◌<◌, ◌-◌, length}
use Rattle.py_run_tests.specs.Checked.{IsNested}
use Rattle.py_run_tests.proofs.checked.all_nested.Given as goal

abbrev pub invariant-loop-number : goal.invariant-loop-number
invariant-loop-number l = (m : ℕ) → m < l.number → IsNested l.handlers l.handler m

abbrev pub decreases-loop-number : goal.decreases-loop-number
decreases-loop-number l = length l.handlers - l.number
