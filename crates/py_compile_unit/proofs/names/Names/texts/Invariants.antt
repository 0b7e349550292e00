use Rattle.std.proofs.Common.{◌≡◌, ◌++◌, drop}
use Rattle.py_compile_unit.proofs.names.Names.texts.Given as goal

abbrev pub invariant-loop-name : goal.invariant-loop-name
invariant-loop-name l = l.texts.items ++ drop l.name-index l.names ≡ l.names
