use Rattle.std.proofs.Common.{◌≡◌, ◌++◌, map, drop}
use Rattle.py_builtins.specs.Predefined.{builtin_pair}
use Rattle.py_builtins.specs.World.{Names, value_of}
use Rattle.py_world.proofs.known_names.builtin_among.Given as goal

abbrev pub invariant-loop-which : goal.invariant-loop-which
invariant-loop-which l = (ns : Names) → value_of l.name (map builtin_pair (drop l.which-index l.all) ++ ns) ≡ value_of l.name (map builtin_pair l.all ++ ns)
