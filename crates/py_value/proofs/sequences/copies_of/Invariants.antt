use Rattle.std.proofs.Common.{◌≡◌, ◌++◌, ◌-◌}
use Rattle.py_value.specs.View.{plains}
use Rattle.py_value.specs.Sequences.{repeat}
use Rattle.py_value.proofs.sequences.copies_of.Given as goal

abbrev pub invariant-turns : goal.invariant-turns
invariant-turns l = plains l.copies.items ++ repeat (l.count - l.counter) (plains l.items) ≡ repeat l.count (plains l.items)
