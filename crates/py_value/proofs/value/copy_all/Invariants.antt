use Rattle.std.proofs.Common.{◌≡◌, ◌++◌, drop}
use Rattle.py_value.specs.View.{plains}
use Rattle.py_value.proofs.value.copy_all.Given as goal

abbrev pub invariant-loop-value : goal.invariant-loop-value
invariant-loop-value l = plains l.copies.items ++ plains (drop l.value-index l.values) ≡ plains l.values
