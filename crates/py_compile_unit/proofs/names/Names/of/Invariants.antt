use Rattle.std.proofs.Common.{◌≡◌, drop}
use Rattle.py_syntax.specs.Names.{add_names, distinct}
use Rattle.py_compile_unit.proofs.names.Names.of.Given as goal

abbrev pub invariant-loop-name : goal.invariant-loop-name
invariant-loop-name l = add_names l.all (drop l.name-index l.names) ≡ distinct l.names
