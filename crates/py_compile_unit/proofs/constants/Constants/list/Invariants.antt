use Rattle.std.proofs.Common.{◌≡◌, ◌++◌, map, drop}
use Rattle.py_compile_unit.specs.Keys.{constant_of}
use Rattle.py_compile_unit.proofs.constants.Constants.list.Given as goal

abbrev pub invariant-loop-key : goal.invariant-loop-key
invariant-loop-key l = l.list.items ++ map constant_of (drop l.key-index l.keys) ≡ map constant_of l.keys
