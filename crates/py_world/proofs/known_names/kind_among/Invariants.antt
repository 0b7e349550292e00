use Rattle.std.proofs.Common.{◌≡◌, map, drop}
use Rattle.py_builtins.specs.Predefined.{kind_pair}
use Rattle.py_builtins.specs.World.{value_of}
use Rattle.py_world.proofs.known_names.kind_among.Given as goal

abbrev pub invariant-loop-kind : goal.invariant-loop-kind
invariant-loop-kind l = value_of l.name (map kind_pair (drop l.kind-index l.all)) ≡ value_of l.name (map kind_pair l.all)
