use Rattle.std.proofs.Common.{◌≡◌, ◌++◌, ◌-◌, None, map, replicate}
use Rattle.py_world.specs.Values.{plain_option}
use Rattle.py_instructions.proofs.slots.Slots.fresh.Given as goal

abbrev pub invariant-unset : goal.invariant-unset
invariant-unset l = map plain_option l.slots.items ++ replicate (l.more - l.counter) None ≡ map plain_option l.initial.slots.items ++ replicate l.more None
