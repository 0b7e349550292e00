use Rattle.std.proofs.Common.{◌≡◌, ◌-◌, ◌++◌}
use Rattle.py_value.specs.View.{plains}
use Rattle.py_builtins.specs.Builtins.{numbers_before}
use Rattle.py_builtins.proofs.ranges.numbers_before.Given as goal

abbrev pub invariant-loop-turn : goal.invariant-loop-turn
invariant-loop-turn l = plains l.numbers.items ++ numbers_before (l.most - l._turn) l.bound l.step l.n ≡ numbers_before l.most l.bound l.step l.from
