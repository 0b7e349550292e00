use Rattle.std.proofs.Common.{◌≡◌, ◌++◌, map, drop}
use Rattle.py_world.specs.Globals.{names_of}
use Rattle.py_world.proofs.store.copy_globals.Given as goal

abbrev pub invariant-loop-names : goal.invariant-loop-names
invariant-loop-names l = map names_of l.copies.items ++ map names_of (drop l.names-index l.globals) ≡ map names_of l.globals
