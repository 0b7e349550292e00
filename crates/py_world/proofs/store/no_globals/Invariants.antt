use Rattle.std.proofs.Common.{◌≡◌, ◌++◌, map, drop}
use Rattle.py_code.specs.Loaded.{module_of}
use Rattle.py_code.specs.Programs.{no_names}
use Rattle.py_world.specs.Globals.{names_of}
use Rattle.py_world.proofs.store.no_globals.Given as goal

abbrev pub invariant-loop-program : goal.invariant-loop-program
invariant-loop-program l = map names_of l.globals.items ++ map no_names (map module_of (drop l.program-index l.modules)) ≡ map no_names (map module_of l.modules)
