use Rattle.std.proofs.Common.{◌≡◌}
use Rattle.py_value.specs.View.{plains}
use Rattle.py_value.specs.Operators.{characters}
use Rattle.py_world.proofs.items.characters_of.Given as goal

abbrev pub invariant-loop-c : goal.invariant-loop-c
invariant-loop-c l = plains l.values.items ≡ characters l.yielded
