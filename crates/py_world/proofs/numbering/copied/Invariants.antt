use Rattle.std.proofs.Common.{◌≡◌, ◌++◌, map, drop}
use Rattle.py_world.specs.Numbered.{plain_global}
use Rattle.py_world.proofs.numbering.copied.Given as goal

abbrev pub invariant-loop-global : goal.invariant-loop-global
invariant-loop-global l = map plain_global l.items.items ++ map plain_global (drop l.global-index l.globals) ≡ map plain_global l.globals
