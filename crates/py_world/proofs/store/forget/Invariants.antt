use Rattle.std.proofs.Common.{◌≡◌, ◌++◌, ◌-◌, length, take, drop}
use Rattle.py_builtins.specs.World.{without_number}
use Rattle.py_world.proofs.store.forget.Given as goal

abbrev pub invariant-loop-place : goal.invariant-loop-place
invariant-loop-place l = take l.place l.numbers.items ++ without_number l.number (drop l.place l.numbers.items) ≡ without_number l.number l.fn.numbers.items

abbrev pub decreases-loop-place : goal.decreases-loop-place
decreases-loop-place l = length l.numbers.items - l.place
