use Rattle.std.proofs.Common.{◌≡◌, ◌++◌, drop}
use Rattle.py_value.specs.View.{plains}
use Rattle.py_world.proofs.parameters.extend.Given as goal

abbrev pub invariant-loop-value : goal.invariant-loop-value
invariant-loop-value l = plains l.values.items ++ plains (drop l.value-index l.more) ≡ plains l.fn.values.items ++ plains l.more
