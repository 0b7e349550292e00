use Rattle.std.proofs.Common.{◌≡◌, drop}
use Rattle.py_syntax.specs.Names.{add_names}
use Rattle.py_scope.proofs.body.add_all.Given as goal

abbrev pub invariant-loop-name : goal.invariant-loop-name
invariant-loop-name l = add_names l.set (drop l.name-index l.names) ≡ add_names l.initial.set l.names
