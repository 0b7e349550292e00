use Rattle.std.proofs.Common.{◌≡◌, ◌++◌, drop}
use Rattle.py_scope.specs.Occurrences.{declaring}
use Rattle.py_scope.proofs.occurrences.declared.Given as goal

abbrev pub invariant-loop-name : goal.invariant-loop-name
invariant-loop-name l = l.out.items ++ declaring l.line (drop l.name-index l.names) ≡ l.initial.out.items ++ declaring l.line l.names
