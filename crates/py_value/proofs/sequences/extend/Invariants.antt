use Rattle.std.proofs.Common.{◌≡◌, ◌++◌, drop}
use Rattle.py_value.specs.View.{plains}
use Rattle.py_value.proofs.sequences.extend.Given as goal

abbrev pub invariant-loop-value : goal.invariant-loop-value
invariant-loop-value l = plains l.items.items ++ plains (drop l.value-index l.more) ≡ plains l.initial.items.items ++ plains l.more
