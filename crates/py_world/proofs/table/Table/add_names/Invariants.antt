use Rattle.std.proofs.Common.{◌≡◌, ◌+◌, length, drop}
use Rattle.py_world.proofs.table.Table.add_names.Given as goal

abbrev pub invariant-loop-name : goal.invariant-loop-name
invariant-loop-name l = length l.numbers.items + length (drop l.name-index l.names) ≡ length l.names
