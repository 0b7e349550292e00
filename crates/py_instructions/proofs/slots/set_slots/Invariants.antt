use Rattle.std.proofs.Common.{◌≡◌, ◌++◌, Some, length, map}
use Rattle.std.specs.Prelude.{reverse}
use Rattle.py_value.specs.View.{plains}
use Rattle.py_world.specs.Values.{plain_option}
use Rattle.py_instructions.proofs.slots.set_slots.Given as goal

abbrev pub invariant-loop-value : goal.invariant-loop-value
invariant-loop-value l = map Some (plains l.rest.items) ++ reverse (map plain_option l.slots.items) ≡ map Some (plains l.fn.values.items)

abbrev pub decreases-loop-value : goal.decreases-loop-value
decreases-loop-value l = length l.rest.items
