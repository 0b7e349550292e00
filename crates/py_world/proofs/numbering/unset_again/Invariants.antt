use Rattle.std.proofs.Common.{◌≡◌, ◌++◌, map, drop}
use Rattle.py_world.specs.Numbered.{plain_global, unset}
use Rattle.py_world.proofs.numbering.unset_again.Given as goal

abbrev pub invariant-loop-global : goal.invariant-loop-global
invariant-loop-global l = map plain_global l.items.items ++ map unset (map plain_global (drop l.global-index l.globals)) ≡ map unset (map plain_global l.globals)
