use Rattle.std.proofs.Common.{◌≡◌, ◌++◌, map, drop}
use Rattle.py_world.specs.Numbered.{plain_global, without_value}
use Rattle.py_world.proofs.table.unset_globals.Given as goal

abbrev pub invariant-loop-name : goal.invariant-loop-name
invariant-loop-name l = map plain_global l.globals.items ++ map without_value (drop l.name-index l.names) ≡ map without_value l.names
