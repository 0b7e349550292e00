use Rattle.std.proofs.Common.{◌≡◌, drop}
use Rattle.py_value.specs.Plain.{packed}
use Rattle.py_value.specs.View.{plains}
use Rattle.py_value.specs.Keys.{are_keys}
use Rattle.py_value.proofs.key.are_keys.Given as goal

abbrev pub invariant-loop-value : goal.invariant-loop-value
invariant-loop-value l = are_keys (packed (plains (drop l.value-index l.values))) ≡ are_keys (packed (plains l.values))
